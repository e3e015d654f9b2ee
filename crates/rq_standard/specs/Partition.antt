-- Cutting a number of things into parts of nearly one size (RFC 6330, 4.4.1.2).
use Rattle.std.specs.Prelude.{ℕ, ◌/◌, ◌*◌, ◌-◌}
use Rattle.std.specs.Int.{div_ceil}

-- the sizes of the larger and of the smaller parts, and how many there are of each
pub record Parts : Type 0 where
  pub larger : ℕ
  pub smaller : ℕ
  pub larger_count : ℕ
  pub smaller_count : ℕ

-- i things in j parts
abbrev pub parts_of : ℕ → ℕ → Parts
parts_of i j = record {
  larger = div_ceil i j;
  smaller = i / j;
  larger_count = i - i / j * j;
  smaller_count = j - (i - i / j * j);
}
