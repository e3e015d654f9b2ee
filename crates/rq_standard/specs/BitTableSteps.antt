-- What callers see of a change of a matrix of bits, and of what is read from it.
use Rattle.std.specs.Prelude.{◌≡◌, ◌≢◌, ℕ, zero, suc, ◌+◌, ◌-◌, ◌<◌, ◌≤◌, ◌⊎◌, ◌==◌, ◌&&◌, if◌then◌else◌, min, Bool, false, List, All, count_by, length, slice_index}
use Rattle.std.specs.Int.Bits.{bit_xor}
use Rattle.rq_standard.specs.BitTable.{BitTable}

-- ---- what is read

-- how many of the places before n have a one
abbrev pub ones_below : (ℕ → ℕ) → ℕ → ℕ
ones_below bit zero = 0
ones_below bit (suc n) = ones_below bit n + bit n

-- how many of the places from `start` on and before `end` have a one
abbrev pub ones_between : (ℕ → ℕ) → ℕ → ℕ → ℕ
ones_between bit start end = ones_below (λ k. bit (start + k)) (end - start)

-- the places from `start` on and before `end` that have a one, each once and in any order
pub record ArePlacesOfOnes (bit : ℕ → ℕ) (start end : ℕ) (places : List ℕ) : Type 0 where
  pub within : All (λ k. (start ≤ k) × (k < end)) places
  pub once : (k : ℕ) → start ≤ k → k < end → count_by (λ place. place == k) places ≡ bit k

-- a place of that range, and its bit
pub record IsPlaceAndBit (bit : ℕ → ℕ) (start end : ℕ) (pair : ℕ × ℕ) : Type 0 where
  pub from : start ≤ pair.0
  pub below : pair.0 < end
  pub octet : pair.1 ≡ bit pair.0

-- how often a place comes with a one
abbrev pub ones_at : ℕ → List (ℕ × ℕ) → ℕ
ones_at k pairs = count_by (λ pair. (pair.0 == k) && (pair.1 == 1)) pairs

-- Pairs of a place of that range and its bit, in any order: each place that has a one occurs once; those that have a zero may occur.
pub record AreOnesOf (bit : ℕ → ℕ) (start end : ℕ) (pairs : List (ℕ × ℕ)) : Type 0 where
  pub within : All (IsPlaceAndBit bit start end) pairs
  pub once : (k : ℕ) → start ≤ k → k < end → ones_at k pairs ≡ bit k

-- the bits from `start` on and before `end`, in order
pub record AreBitsOf (bit : ℕ → ℕ) (start end : ℕ) (octets : List ℕ) : Type 0 where
  pub len : length octets ≡ end - start
  pub octet : (k : ℕ) → start ≤ k → k < end → slice_index octets (k - start) ≡ bit k

-- ---- what is asked

-- a bit may be set in any column while the columns aren't indexed, and else in the dense ones
abbrev pub CanSet : BitTable → ℕ → Type 0
CanSet m j = (m.indexed ≡ false) ⊎ (m.boundary ≤ j)

-- rows may be added from the dense columns on, or, while the columns aren't indexed, as a whole
abbrev pub CanAdd : BitTable → ℕ → Type 0
CanAdd m start = (start ≡ m.boundary) ⊎ ((start ≡ 0) × (m.indexed ≡ false))

-- ---- what changes

-- the same height, width, boundary and flag
pub record HasSameShape (old new : BitTable) : Type 0 where
  pub height : new.height ≡ old.height
  pub width : new.width ≡ old.width
  pub boundary : new.boundary ≡ old.boundary
  pub indexed : new.indexed ≡ old.indexed

-- the same bits
abbrev pub HasSameBits : BitTable → BitTable → Type 0
HasSameBits old new = (i k : ℕ) → i < old.height → k < old.width → new.bit i k ≡ old.bit i k

-- the same shape and bits
pub record IsUnchanged (old new : BitTable) : Type 0 where
  pub shape : HasSameShape old new
  pub bits : HasSameBits old new

-- no ones, and the last `dense` columns dense
pub record IsZeroTable (rows columns dense : ℕ) (m : BitTable) : Type 0 where
  pub height : m.height ≡ rows
  pub width : m.width ≡ columns
  pub boundary : m.boundary ≡ columns - dense
  pub indexed : m.indexed ≡ false
  pub zeros : (i k : ℕ) → i < rows → k < columns → m.bit i k ≡ 0

-- the bit that an octet sets
abbrev pub bit_of : ℕ → ℕ
bit_of octet = if octet == 0 then 0 else 1

-- the bit in row i and column j is that of the octet
pub record SetsBit (old : BitTable) (i j octet : ℕ) (new : BitTable) : Type 0 where
  pub shape : HasSameShape old new
  pub here : new.bit i j ≡ bit_of octet
  pub other_columns : (k : ℕ) → k < old.width → k ≢ j → new.bit i k ≡ old.bit i k
  pub other_rows : (a k : ℕ) → a < old.height → k < old.width → a ≢ i → new.bit a k ≡ old.bit a k

-- rows i and j are exchanged
pub record SwapsRows (old : BitTable) (i j : ℕ) (new : BitTable) : Type 0 where
  pub shape : HasSameShape old new
  pub first : (k : ℕ) → k < old.width → new.bit i k ≡ old.bit j k
  pub second : (k : ℕ) → k < old.width → new.bit j k ≡ old.bit i k
  pub other_rows : (a k : ℕ) → a < old.height → k < old.width → a ≢ i → a ≢ j → new.bit a k ≡ old.bit a k

-- in a row of `width` columns, the bits in columns i and j are exchanged
pub record SwapsPlaces (width : ℕ) (old : ℕ → ℕ) (i j : ℕ) (new : ℕ → ℕ) : Type 0 where
  pub first : new i ≡ old j
  pub second : new j ≡ old i
  pub elsewhere : (k : ℕ) → k < width → k ≢ i → k ≢ j → new k ≡ old k

-- columns i and j are exchanged in each row from `hint` on, and in each row above exchanged or kept
pub record SwapsColumns (old : BitTable) (i j hint : ℕ) (new : BitTable) : Type 0 where
  pub shape : HasSameShape old new
  pub below : (a : ℕ) → hint ≤ a → a < old.height → SwapsPlaces old.width (old.bit a) i j (new.bit a)
  pub above : (a : ℕ) → a < hint → a < old.height → SwapsPlaces old.width (old.bit a) i j (new.bit a) ⊎ ((k : ℕ) → k < old.width → new.bit a k ≡ old.bit a k)

-- the columns are indexed, or not
pub record SetsIndexed (old : BitTable) (flag : Bool) (new : BitTable) : Type 0 where
  pub height : new.height ≡ old.height
  pub width : new.width ≡ old.width
  pub boundary : new.boundary ≡ old.boundary
  pub indexed : new.indexed ≡ flag
  pub bits : HasSameBits old new

-- another column is the first dense one
pub record SetsBoundary (old : BitTable) (first : ℕ) (new : BitTable) : Type 0 where
  pub height : new.height ≡ old.height
  pub width : new.width ≡ old.width
  pub boundary : new.boundary ≡ first
  pub indexed : new.indexed ≡ old.indexed
  pub bits : HasSameBits old new

-- row `dest` is the sum of itself and row `src` from column `start` on; in each column before, it is that sum or as it was
pub record AddsRowFrom (old : BitTable) (dest src start : ℕ) (new : BitTable) : Type 0 where
  pub shape : HasSameShape old new
  pub sum : (k : ℕ) → start ≤ k → k < old.width → new.bit dest k ≡ bit_xor (old.bit dest k) (old.bit src k)
  pub before : (k : ℕ) → k < start → k < old.width → (new.bit dest k ≡ old.bit dest k) ⊎ (new.bit dest k ≡ bit_xor (old.bit dest k) (old.bit src k))
  pub other_rows : (a k : ℕ) → a < old.height → k < old.width → a ≢ dest → new.bit a k ≡ old.bit a k

-- the first rows and columns, no more of them dense than were
pub record KeepsLeading (old : BitTable) (rows columns : ℕ) (new : BitTable) : Type 0 where
  pub height : new.height ≡ rows
  pub width : new.width ≡ columns
  pub boundary : new.boundary ≡ min old.boundary columns
  pub indexed : new.indexed ≡ old.indexed
  pub bits : (i k : ℕ) → i < rows → k < columns → new.bit i k ≡ old.bit i k
