-- Symbols of octets are rows of octets.
use Rattle.std.specs.Prelude.{◌≡◌, ℕ, ◌<◌, List, length}
use Rattle.rq_algebra.specs.Symbols.{add_symbols, symbols}
use Rattle.rq_standard.specs.OctetField.{octets}
use Rattle.rq_standard.specs.Rows.{row_sum, row_multiple}

-- those of equal length have these sums, and all have these multiples
pub record SymbolsAreRows : Type 0 where
  pub sum : (xs ys : List ℕ) → length ys ≡ length xs → add_symbols octets xs ys ≡ row_sum xs ys
  pub multiple : (a : ℕ) (xs : List ℕ) → a < 256 → (symbols octets).scale a xs ≡ row_multiple a xs
