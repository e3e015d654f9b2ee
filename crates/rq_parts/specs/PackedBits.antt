-- Rows of bits, 64 to a word, the bit in column k at place k mod 64 of word k / 64.
use Rattle.std.specs.Prelude.{◌≡◌, ◌≢◌, ℕ, ◌+◌, ◌/◌, ◌<◌, ◌≤◌}
use Rattle.std.specs.Int.{bit_at}

-- how many words a row of `width` columns has
abbrev pub word_count : ℕ → ℕ
word_count width = (width + 63) / 64

-- a word that has one bit set anew
pub record IsWordWith (old bit value new : ℕ) : Type 0 where
  pub here : bit_at new bit ≡ value
  pub elsewhere : (i : ℕ) → i < 64 → i ≢ bit → bit_at new i ≡ bit_at old i

-- the places from one on and before `end` have zeros
abbrev pub HasZerosBetween : (ℕ → ℕ) → ℕ → ℕ → Type 0
HasZerosBetween entry from end = (k : ℕ) → from ≤ k → k < end → entry k ≡ 0

-- the last of the places before `end` that have a one
pub record IsLastOne (bit : ℕ → ℕ) (end place : ℕ) : Type 0 where
  pub below : place < end
  pub one : bit place ≡ 1
  pub after : HasZerosBetween bit (place + 1) end

-- the first of the places from one on and before `end` that has a one
pub record IsNextOne (bit : ℕ → ℕ) (from end place : ℕ) : Type 0 where
  pub behind : from ≤ place
  pub below : place < end
  pub one : bit place ≡ 1
  pub zeros : HasZerosBetween bit from place
