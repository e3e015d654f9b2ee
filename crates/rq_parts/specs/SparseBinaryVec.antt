-- A row of bits as the ascending list of the indices that have a one.
use Rattle.std.specs.Prelude.{◌≡◌, ◌≢◌, ℕ, ◌<◌, ◌≤◌, ◌==◌, List, [], ◌∷◌, ◌++◌, length, slice_index, Option, None, Some, Result, OnOk, OnErr, if◌then◌else◌, count_by}
use Rattle.std.specs.List.{insert}
use Rattle.std.specs.List.Sorted.{IsStrictlyIncreasing}
use Rattle.std.specs.Int.Bits.{bit_xor}
use Rattle.rq_standard.specs.BitTableSteps.{bit_of}

-- the bit at an index: how often it is listed, once at most
abbrev pub listed_bit : List ℕ → ℕ → ℕ
listed_bit ones k = count_by (λ one. one == k) ones

-- the octet at an index, where it isn't zero
abbrev pub listed_octet : List ℕ → ℕ → Option ℕ
listed_octet ones k = if listed_bit ones k == 0 then None else Some 1

-- the bit at index i is that of an octet, and the others are as they were
pub record SetsListed (old : List ℕ) (i octet : ℕ) (new : List ℕ) : Type 0 where
  pub here : listed_bit new i ≡ bit_of octet
  pub elsewhere : (k : ℕ) → k ≢ i → listed_bit new k ≡ listed_bit old k

-- an index is listed behind all others, or the list is as it was where that is refused
pub record IsPushed {T E : Type 0} (old : List ℕ) (one : ℕ) (new : List ℕ) (result : Result T E) : Type 0 where
  pub ok : OnOk result (new ≡ old ++ one ∷ [])
  pub refused : OnErr result (new ≡ old)

-- the sum of two rows
abbrev pub IsListedSum : List ℕ → List ℕ → List ℕ → Type 0
IsListedSum row other sum = (k : ℕ) → listed_bit sum k ≡ bit_xor (listed_bit row k) (listed_bit other k)

-- the second row has a one where the first has none
abbrev pub HasOtherOne : List ℕ → List ℕ → Type 0
HasOtherOne row other = (k : ℕ) × (listed_bit row k ≡ 0) × (listed_bit other k ≡ 1)

-- an index is listed at a place of the list
pub record IsListed (ones : List ℕ) (i at : ℕ) : Type 0 where
  pub within : at < length ones
  pub is : slice_index ones at ≡ i

-- an index isn't listed, and would go to a place of the list
pub record IsGap (ones : List ℕ) (i gap : ℕ) : Type 0 where
  pub within : gap ≤ length ones
  pub before : (k : ℕ) → k < gap → slice_index ones k < i
  pub behind : (k : ℕ) → gap ≤ k → k < length ones → i < slice_index ones k

-- an index would go to a place of the list, whether or not it is listed
pub record IsInsertionPlace (ones : List ℕ) (i place : ℕ) : Type 0 where
  pub within : place ≤ length ones
  pub before : (k : ℕ) → k < place → slice_index ones k < i
  pub behind : (k : ℕ) → place ≤ k → k < length ones → i ≤ slice_index ones k

-- the last index is moved to its place among the ascending ones before it
abbrev pub InsertsLast : List ℕ → List ℕ → Type 0
InsertsLast old new = (xs : List ℕ) (one place : ℕ) → old ≡ xs ++ one ∷ [] → IsStrictlyIncreasing xs → IsInsertionPlace xs one place → new ≡ insert xs place one
