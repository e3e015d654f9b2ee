-- The sums of the HDPC equations over intermediate symbols, column by column of their coefficients.
use Rattle.std.specs.Prelude.{◌≡◌, ℕ, ◌+◌, ◌<◌, List, None, length}
use Rattle.rq_algebra.specs.Systems.{dot, at}
use Rattle.rq_algebra.specs.Symbols.{slice_at}
use Rattle.rq_bytes.specs.SymbolSlab.{Slab, symbol_in}
use Rattle.rq_standard.specs.declared.row.TableRow.{TableRow}
use Rattle.rq_standard.specs.OctetField.{octets}
use Rattle.rq_standard.specs.Octets.{octet_power}
use Rattle.rq_standard.specs.Equations.{before_hdpc, hdpc_coefficient}

-- A slab has H sums, one for each HDPC equation, and one symbol behind them. Once that one, times its equation's coefficient of symbol n, is
-- added to it, each sum is that of its equation's own HDPC symbol and of the products with the symbols 0 to n.
pub record AreHdpcSums (row : TableRow) (column : ℕ → List ℕ) (size n : ℕ) (sums : Slab) : Type 0 where
  pub order : sums.order ≡ None
  pub size_is : sums.symbol_size ≡ size
  pub count : length sums.values ≡ row.hdpc_symbols + 1
  pub elements : (p : ℕ) → at (symbol_in sums row.hdpc_symbols) p < octets.size
  pub sum : (h p : ℕ) → h < row.hdpc_symbols
      → octets.add (at (symbol_in sums h) p) (octets.mul (hdpc_coefficient row h n) (at (symbol_in sums row.hdpc_symbols) p))
      ≡ octets.add (at (column (before_hdpc row + h)) p) (dot octets (n + 1) (hdpc_coefficient row h) (slice_at p column))

-- each of the first `height` sums is zero once its power of alpha, times the symbol behind them, is added to it
abbrev pub AreZeroWithLast : ℕ → Slab → Type 0
AreZeroWithLast height sums =
    (h : ℕ) → h < height → (p : ℕ) → octets.add (at (symbol_in sums h) p) (octets.mul (octet_power h) (at (symbol_in sums height) p)) ≡ 0
