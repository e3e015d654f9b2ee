-- Elementary operations on the rows of a system and on its values, entry by entry.
use Rattle.std.specs.Prelude.{◌≡◌, ◌≢◌, ℕ, ◌<◌}
use Rattle.rq_algebra.specs.Field.{Field}
use Rattle.rq_algebra.specs.Systems.{Solves}

-- row dest += scalar * row src
pub record AddsRow (F : Field) (height width dest src scalar : ℕ) (old new : ℕ → ℕ → ℕ) : Type 0 where
  pub at_dest : (k : ℕ) → k < width → new dest k ≡ F.add (old dest k) (F.mul scalar (old src k))
  pub elsewhere : (i k : ℕ) → i < height → k < width → i ≢ dest → new i k ≡ old i k

-- row dest *= scalar
pub record ScalesRow (F : Field) (height width dest scalar : ℕ) (old new : ℕ → ℕ → ℕ) : Type 0 where
  pub at_dest : (k : ℕ) → k < width → new dest k ≡ F.mul scalar (old dest k)
  pub elsewhere : (i k : ℕ) → i < height → k < width → i ≢ dest → new i k ≡ old i k

-- value dest += scalar * value src
pub record AddsValue (F : Field) (height dest src scalar : ℕ) (old new : ℕ → ℕ) : Type 0 where
  pub at_dest : new dest ≡ F.add (old dest) (F.mul scalar (old src))
  pub elsewhere : (i : ℕ) → i < height → i ≢ dest → new i ≡ old i

-- value dest *= scalar
pub record ScalesValue (F : Field) (height dest scalar : ℕ) (old new : ℕ → ℕ) : Type 0 where
  pub at_dest : new dest ≡ F.mul scalar (old dest)
  pub elsewhere : (i : ℕ) → i < height → i ≢ dest → new i ≡ old i

-- two systems, with their values, that the same columns solve
pub record SameSolutions (F : Field) (height width : ℕ) (old : ℕ → ℕ → ℕ) (old_values : ℕ → ℕ) (new : ℕ → ℕ → ℕ) (new_values : ℕ → ℕ) : Type 0 where
  pub onward : (column : ℕ → ℕ) → Solves F height width old column old_values → Solves F height width new column new_values
  pub back : (column : ℕ → ℕ) → Solves F height width new column new_values → Solves F height width old column old_values
