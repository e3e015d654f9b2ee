-- What recorded operations make of a block's source symbols.
use Rattle.std.specs.Prelude.{ℕ, ◌+◌, ◌-◌, ◌≤◌, List, ◌++◌, length, replicate}
use Rattle.rq_algebra.specs.Operations.{Operation}
use Rattle.rq_algebra.specs.Symbols.{AreSymbols}
use Rattle.rq_bytes.specs.SymbolSlab.{Slab, after_all, slab_of, symbol_in, symbols_in}
use Rattle.rq_standard.specs.declared.row.TableRow.{TableRow}
use Rattle.rq_standard.specs.OctetField.{octets}
use Rattle.rq_standard.specs.TableRows.{intermediate_symbols}
use Rattle.rq_standard.specs.Equations.{zero_symbol}
use Rattle.rq_standard.specs.Headline.{IsOnlyIntermediateColumn}

-- the values of a block's equations: zeros, its source symbols, and zeros for the padding
abbrev pub source_values : TableRow → ℕ → List (List ℕ) → List (List ℕ)
source_values row size source =
    replicate (row.ldpc_symbols + row.hdpc_symbols) (zero_symbol size) ++ (source ++ replicate (row.extended_symbols - length source) (zero_symbol size))

-- what operations make of these values
abbrev pub planned_slab : TableRow → List Operation → ℕ → List (List ℕ) → Slab
planned_slab row operations size source = after_all operations (slab_of size (source_values row size source))

-- The operations make the intermediate symbols of any block of the row, from any source symbols of one size.
pub record IsPlanOf (row : TableRow) (operations : List Operation) : Type 0 where
  pub enough : (size : ℕ) (source : List (List ℕ)) → length source ≤ row.extended_symbols
      → intermediate_symbols row ≤ length (symbols_in (planned_slab row operations size source))
  pub column : (size : ℕ) (source : List (List ℕ)) → length source ≤ row.extended_symbols → AreSymbols octets size (length source) source
      → IsOnlyIntermediateColumn row size source (symbol_in (planned_slab row operations size source))
