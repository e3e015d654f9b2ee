-- Rows of a dense matrix of bits, each in words.
use Rattle.std.specs.Prelude.{◌≡◌, ℕ, ◌<◌, ◌≤◌, List, [], length, slice_index_or}
use Rattle.rq_bytes.specs.BinaryOctetVec.{packed_bit}
use Rattle.rq_standard.specs.BitTableSteps.{SwapsPlaces}

-- the bit in row i and column k
abbrev pub bit_in : List (List ℕ) → ℕ → ℕ → ℕ
bit_in rows i k = packed_bit (slice_index_or rows i []) k

-- in the rows from `start` on and before `end`, the bits in columns i and j are exchanged, and the others are as they were
pub record AreSwappedFrom (i j start end : ℕ) (old new : List (List ℕ)) : Type 0 where
  pub count : length new ≡ length old
  pub lengths : (a : ℕ) → length (slice_index_or new a []) ≡ length (slice_index_or old a [])
  pub swapped : (a width : ℕ) → start ≤ a → a < end → SwapsPlaces width (packed_bit (slice_index_or old a [])) i j (packed_bit (slice_index_or new a []))
  pub above : (a : ℕ) → a < start → slice_index_or new a [] ≡ slice_index_or old a []
  pub after : (a : ℕ) → end ≤ a → slice_index_or new a [] ≡ slice_index_or old a []
