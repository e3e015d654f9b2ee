-- What a solver finds of a block.
use Rattle.std.specs.Prelude.{◌≡◌, ℕ, ◌+◌, ◌<◌, ◌≤◌, List, length, Option, Vec, MatchOption, IfSome, IsSomeAnd}
use Rattle.std.specs.Global.{Global}
use Rattle.rq_algebra.specs.Operations.{FindsColumn}
use Rattle.rq_algebra.specs.Symbols.{IsSymbolColumn, SolvesSymbols, symbol_at}
use Rattle.rq_algebra.specs.Systems.{IsDetermined, IsHomogeneousColumn, stacked, rows_of}
use Rattle.rq_bytes.specs.SymbolSlab.{Slab, symbol_in, symbols_in, IsZeroUnread}
use Rattle.rq_null_vector.specs.Homogeneous.{ShowsHomogeneous}
use Rattle.rq_operations.specs.RecordedOperations.{operations_of}
use Rattle.rq_standard.specs.declared.row.TableRow.{TableRow}
use Rattle.rq_standard.specs.OctetField.{octets}
use Rattle.rq_standard.specs.TableRows.{intermediate_symbols}
use Rattle.rq_standard.specs.Equations.{equation_count, equations, precode_equations, hdpc_coefficient, symbol_coefficient, zero_symbol}
use Rattle.rq_standard.specs.IdLists.{HasDeterminedRows}
use Rattle.rq_block.specs.declared.solving.BlockOperations.{BlockOperations}
use Rattle.rq_solver.specs.Solved.{found_of, shown_of}
use Rattle.rq_solver.specs.declared.pi_solver.solved.Solved.{Solved}

-- the first `precode_rows` of the LDPC and HDPC equations, and then one for each id
abbrev pub first_equations : TableRow → ℕ → List ℕ → ℕ → ℕ → ℕ
first_equations row precode_rows ids = stacked precode_rows (precode_equations row) (rows_of (symbol_coefficient row) ids)

-- a column of symbols solves these with some values
abbrev pub SolvesFirstEquations : TableRow → ℕ → List ℕ → (ℕ → List ℕ) → List (List ℕ) → Type 0
SolvesFirstEquations row precode_rows ids column values =
    SolvesSymbols octets (precode_rows + length ids) (intermediate_symbols row) (first_equations row precode_rows ids) column (symbol_at values)

-- the operations find the intermediate symbols from the values of these
pub record FindsFrom (row : TableRow) (ids : List ℕ) (solution : BlockOperations) : Type 0 where
  pub few : solution.precode_rows ≤ row.ldpc_symbols + row.hdpc_symbols
  pub ldpc : row.ldpc_symbols ≤ solution.precode_rows
  pub enough : intermediate_symbols row ≤ solution.precode_rows + length ids
  pub finds : FindsColumn octets (solution.precode_rows + length ids) (intermediate_symbols row) (first_equations row solution.precode_rows ids)
      (operations_of solution.operations)

-- the operations that find the intermediate symbols, exactly where the ids determine them
abbrev pub FindsListed : TableRow → List ℕ → Option BlockOperations → Type 0
FindsListed row ids answer = MatchOption answer (HasDeterminedRows row ids → ⊥) (FindsFrom row ids)

-- a column that solves the equations of ids with all values zero, exactly where they don't determine
abbrev pub ShowsListed : TableRow → List ℕ → Option (Vec ℕ Global) → Type 0
ShowsListed row ids answer = ShowsHomogeneous (equation_count row ids) (intermediate_symbols row) (equations row ids) answer

-- a column that isn't all zeros and solves the equations of a list of ids with all values zero
abbrev pub IsHomogeneousFor : TableRow → List ℕ → Vec ℕ Global → Type 0
IsHomogeneousFor row ids column = IsHomogeneousColumn octets (equation_count row ids) (intermediate_symbols row) (equations row ids) column.items

-- what is found of the equations of a list of ids
pub record IsBlockOutcome (row : TableRow) (ids : List ℕ) (outcome : Solved BlockOperations) : Type 0 where
  pub found : FindsListed row ids (found_of outcome)
  pub shown : IfSome (shown_of outcome) (IsHomogeneousFor row ids)

-- the LDPC equations and those of the ids are as many as the intermediate symbols, and determine them without those of HDPC
pub record NeedsNoHdpc (row : TableRow) (ids : List ℕ) : Type 0 where
  pub enough : intermediate_symbols row ≤ row.ldpc_symbols + length ids
  pub determined : IsDetermined octets (row.ldpc_symbols + length ids) (intermediate_symbols row) (first_equations row row.ldpc_symbols ids)

-- operations over the LDPC equations and those of the ids, exactly where no other ones are needed
abbrev pub FindsWithoutHdpc : TableRow → List ℕ → Option BlockOperations → Type 0
FindsWithoutHdpc row ids answer = MatchOption answer (NeedsNoHdpc row ids → ⊥) (λ solution. solution.precode_rows ≡ row.ldpc_symbols)

-- no HDPC equation is used where none is needed
abbrev pub SparesHdpc : TableRow → List ℕ → Option BlockOperations → Type 0
SparesHdpc row ids answer = NeedsNoHdpc row ids → IsSomeAnd answer (λ solution. solution.precode_rows ≡ row.ldpc_symbols)

-- a slab has a symbol of its size for each intermediate symbol of a row
pub record HasIntermediate (row : TableRow) (slab : Slab) : Type 0 where
  pub enough : intermediate_symbols row ≤ length (symbols_in slab)
  pub symbols : IsSymbolColumn octets slab.symbol_size (intermediate_symbols row) (symbol_in slab)

-- the intermediate symbols in a slab, from the values of the equations
pub record IsBlockSolution (row : TableRow) (precode_rows : ℕ) (ids : List ℕ) (size : ℕ) (values : List (List ℕ)) (slab : Slab) : Type 0 where
  pub determined : HasDeterminedRows row ids
  pub enough : intermediate_symbols row ≤ length (symbols_in slab)
  pub size_is : slab.symbol_size ≡ size
  pub symbols : IsSymbolColumn octets size (intermediate_symbols row) (symbol_in slab)
  -- a column that solves the equations is the one found
  pub only : (column : ℕ → List ℕ) → IsSymbolColumn octets size (intermediate_symbols row) column
      → SolvesFirstEquations row precode_rows ids column values
      → (k : ℕ) → k < intermediate_symbols row → column k ≡ symbol_in slab k
  -- there is one exactly where the symbols that aren't read are zeros, and the one found then solves them
  pub leaves : (column : ℕ → List ℕ) → IsSymbolColumn octets size (intermediate_symbols row) column
      → SolvesFirstEquations row precode_rows ids column values
      → IsZeroUnread slab
  pub solves : IsZeroUnread slab → SolvesFirstEquations row precode_rows ids (symbol_in slab) values

-- a column of symbols solves the HDPC equations
abbrev pub SolvesHdpc : TableRow → ℕ → (ℕ → List ℕ) → Type 0
SolvesHdpc row size column = SolvesSymbols octets row.hdpc_symbols (intermediate_symbols row) (hdpc_coefficient row) column (λ _. zero_symbol size)

-- intermediate symbols in a slab, from the values of the first `precode_rows` of the LDPC and HDPC equations and those of ids, solve all equations:
-- nothing is left over of the values, and the HDPC equations are solved where they weren't among those
pub record Fits (row : TableRow) (precode_rows : ℕ) (slab : Slab) : Type 0 where
  pub unread : IsZeroUnread slab
  pub hdpc : precode_rows < row.ldpc_symbols + row.hdpc_symbols → SolvesHdpc row slab.symbol_size (symbol_in slab)
