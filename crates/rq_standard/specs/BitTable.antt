-- What callers see of a matrix of bits.
use Rattle.std.specs.Prelude.{ℕ, ◌^◌, ◌<◌, ◌≤◌, Bool}

-- how many rows and columns there are, the first of the dense columns, whether the columns are indexed, and the bit in each row and column
pub record BitTable : Type 0 where
  pub height : ℕ
  pub width : ℕ
  pub boundary : ℕ
  pub indexed : Bool
  pub bit : ℕ → ℕ → ℕ

-- what holds of each matrix
pub record IsBitTable (m : BitTable) : Type 0 where
  pub height_fits : m.height < 2 ^ 31
  pub width_fits : m.width < 65536
  pub within : m.boundary ≤ m.width
  pub bits : (i j : ℕ) → i < m.height → j < m.width → m.bit i j < 2
