-- Octets that aren't 0.
use Rattle.std.specs.Prelude.{◌≡◌, ℕ, ◌+◌, ◌-◌, ◌%◌, ◌<◌, ◌≤◌, List, slice_index}
use Rattle.std.specs.Int.{bit_at}
use Rattle.rq_standard.specs.BitTableSteps.{bit_of}

-- the ones of a word are the octets that aren't 0, in the vector of 32 that begins at `start`, after a place
pub record HasOnes (octets : List ℕ) (start place ones : ℕ) : Type 0 where
  pub behind : (k : ℕ) → start + k ≤ place → bit_at ones k ≡ 0
  pub ahead : (k : ℕ) → place < start + k → k < 32 → bit_at ones k ≡ bit_of (slice_index octets (start + k))
  pub beyond : (k : ℕ) → 32 ≤ k → bit_at ones k ≡ 0

-- the bits of `ones` are those of the vector of 32 octets in which a place is
abbrev pub HasOnesAfter : List ℕ → ℕ → ℕ → Type 0
HasOnesAfter octets place ones = HasOnes octets (place - place % 32) place ones
