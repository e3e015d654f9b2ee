-- Products of an octet and the halves of a byte.
use Rattle.std.specs.Prelude.{◌≡◌, ℕ, ◌+◌, ◌*◌, ◌/◌, ◌%◌, ◌^◌, ◌<◌, List, length, slice_index}
use Rattle.std.specs.Simd.Lanes.{zip2}
use Rattle.rq_standard.specs.Octets.{octet_mul}

-- the halves of a byte: first the lower ones, then the upper ones
abbrev pub half_byte : ℕ → ℕ
half_byte i = i % 16 * 16 ^ (i / 16)

-- the products of each lower half, and those of each upper half, both twice
pub record AreHalfProducts (scalar : ℕ) (low high : List ℕ) : Type 0 where
  pub octet : scalar < 256
  pub low_count : length low ≡ 32
  pub high_count : length high ≡ 32
  pub of_low : (i : ℕ) → i < 32 → slice_index low i ≡ octet_mul scalar (i % 16)
  pub of_high : (i : ℕ) → i < 32 → slice_index high i ≡ octet_mul scalar (i % 16 * 16)

-- as many lower as upper halves of bytes
pub record AreHalves (lower upper : List ℕ) : Type 0 where
  pub lower_count : length lower ≡ 32
  pub upper_count : length upper ≡ 32
  pub lower_small : (i : ℕ) → i < 32 → slice_index lower i < 16
  pub upper_small : (i : ℕ) → i < 32 → slice_index upper i < 16

-- the bytes that have these halves
abbrev pub whole_bytes : List ℕ → List ℕ → List ℕ
whole_bytes lower upper = zip2 (λ x y. x + 16 * y) lower upper
