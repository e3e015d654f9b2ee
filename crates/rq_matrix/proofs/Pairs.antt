-- The ones of a row of bits, as pairs.
use Rattle.std.proofs.Common.{◌≡◌, ℕ, zero, suc, ◌+◌, ◌-◌, ◌<◌, ◌≤◌, Bool, cond, List, [], ◌∷◌, length, map, get_or, refl, sym, ap, subst, ◌∙◌, arith, inl, inr, zero-add, add-zero, eqb-true}
use Rattle.std.specs.Prelude.{◌==◌, count_by}
use Rattle.std.specs.List.{All}
use Rattle.std.specs.List.Sorted.{IsStrictlyIncreasing}
use Rattle.std.proofs.lemmas.List.Elements.{All-cons, All-filter, All-map, filter_passes}
use Rattle.std.proofs.lemmas.List.Sums.{sum_by-cons, length-filter, count_by-le-length}
use Rattle.std.proofs.lemmas.Bool.Decides.{eqb_tells}
use Rattle.rq_bytes.specs.BinaryOctetVec.{packed_bit}
use Rattle.rq_standard.specs.BitTableSteps.{ones_at, AreOnesOf, IsPlaceAndBit, ArePlacesOfOnes}
use Rattle.rq_standard.proofs.BitTableLaws.{is_one_at, is_one_at-other, is_one_at-one, is_one_at-zero, ones_at-cons}
use Rattle.rq_parts.specs.BitPairs.{bit_pairs, ones_among}
use Rattle.rq_parts.proofs.PackedBits.{packed_bit-lt}

-- each pair is a place of the range with its bit
bit_pairs-within : (words : List ℕ) (first end start count : ℕ) → first ≤ start → start + count ≤ end → All (IsPlaceAndBit (packed_bit words) first end) (bit_pairs words start start count)
unfolding bit_pairs
bit_pairs-within words first end start zero from below = λ k d lt. absurd (omega arith)
bit_pairs-within words first end start (suc count) from below =
    All-cons (IsPlaceAndBit (packed_bit words) first end) (start, packed_bit words start) (bit_pairs words (suc start) (suc start) count)
    (record { from = from; below = omega arith; octet = refl })
    (bit_pairs-within words first end (suc start) count (omega arith) (omega arith))

-- leaving out what isn't a one changes no count of ones
ones_at-among : (k : ℕ) (pairs : List (ℕ × ℕ)) → ones_at k (ones_among pairs) ≡ ones_at k pairs
ones_at-among k [] = refl
ones_at-among k (pair ∷ pairs) =
    let rest = ones_at-among k pairs in
    let among = λ (b : Bool). cond b (pair ∷ ones_among pairs) (ones_among pairs) in
    elim (eqb_tells pair.1 1) [
      | inl e ↦ ap (λ b. ones_at k (among b)) e.0 ∙ ones_at-cons k pair (ones_among pairs) ∙ ap (λ n. is_one_at k pair + n) rest ∙ sym (ones_at-cons k pair pairs)
      | inr e ↦ ap (λ b. ones_at k (among b)) e.0 ∙ rest ∙ sym (zero-add (ones_at k pairs)) ∙ ap (λ n. n + ones_at k pairs) (sym (is_one_at-zero k pair e.1)) ∙ sym (ones_at-cons k pair pairs)
    ]

is_one_at-bit : (k : ℕ) (pair : ℕ × ℕ) → pair.0 ≡ k → pair.1 < 2 → is_one_at k pair ≡ pair.1
is_one_at-bit k pair same small =
    elim (eqb_tells pair.1 1) [
      | inl e ↦ is_one_at-one k pair same e.1 ∙ sym e.1
      | inr e ↦ is_one_at-zero k pair e.1 ∙ (let other = e.1 in let zero : 0 ≡ pair.1 = omega arith in zero)
    ]

ones_at-before : (words : List ℕ) (start count k : ℕ) → k < start → ones_at k (bit_pairs words start start count) ≡ 0
unfolding bit_pairs
ones_at-before words start zero k before = refl
ones_at-before words start (suc count) k before =
    ones_at-cons k (start, packed_bit words start) (bit_pairs words (suc start) (suc start) count)
    ∙ ap (λ n. n + ones_at k (bit_pairs words (suc start) (suc start) count)) (is_one_at-other k (start, packed_bit words start) (λ e. let f = e in absurd (omega arith)))
    ∙ zero-add (ones_at k (bit_pairs words (suc start) (suc start) count))
    ∙ ones_at-before words (suc start) count k (omega arith)

ones_at-within : (words : List ℕ) (start count k : ℕ) → start ≤ k → k < start + count → ones_at k (bit_pairs words start start count) ≡ packed_bit words k
unfolding bit_pairs
ones_at-within words start zero k from below = absurd (omega arith)
ones_at-within words start (suc count) k from below =
    let pair : ℕ × ℕ = (start, packed_bit words start) in
    let rest = bit_pairs words (suc start) (suc start) count in
    ones_at-cons k pair rest
    ∙ elim (eqb_tells start k) [
      | inl e ↦
          let same = e.1 in
          ap (λ n. n + ones_at k rest) (is_one_at-bit k pair e.1 (packed_bit-lt words start))
          ∙ ap (λ n. packed_bit words start + n) (ones_at-before words (suc start) count k (omega arith))
          ∙ add-zero (packed_bit words start)
          ∙ ap (packed_bit words) e.1
      | inr e ↦
          let other = e.1 in
          ap (λ n. n + ones_at k rest) (is_one_at-other k pair e.1) ∙ zero-add (ones_at k rest) ∙ ones_at-within words (suc start) count k (omega arith) (omega arith)
    ]

-- the ones of a row
pub are_ones_of : (words : List ℕ) (start end : ℕ) → start ≤ end → AreOnesOf (packed_bit words) start end (ones_among (bit_pairs words start start (end - start)))
are_ones_of words start end range = record {
  within = All-filter (λ pair. pair.1 == 1) (IsPlaceAndBit (packed_bit words) start end) (bit_pairs words start start (end - start)) (bit_pairs-within words start end start (end - start) (omega arith) (omega arith));
  once = λ k from below. ones_at-among k (bit_pairs words start start (end - start)) ∙ ones_at-within words start (end - start) k from (omega arith);
}

-- numbers in ascending order, none below the first bound
abbrev Ascends : ℕ → List ℕ → Type 0
Ascends start [] = Unit {0}
Ascends start (x ∷ xs) = (start ≤ x) × Ascends (suc x) xs

Ascends-lower : (low start : ℕ) (xs : List ℕ) → low ≤ start → Ascends start xs → Ascends low xs
Ascends-lower low start [] le up = tt
Ascends-lower low start (x ∷ xs) le up = let first = up.0 in (omega arith, up.1)

Ascends-next : (start : ℕ) (xs : List ℕ) → Ascends start xs → (k : ℕ) → suc k < length xs → get_or xs k 0 < get_or xs (suc k) 0
Ascends-next start [] up k lt = absurd (omega arith)
Ascends-next start (x ∷ []) up k lt = absurd (omega arith)
Ascends-next start (x ∷ y ∷ ys) up zero lt = up.1.0
Ascends-next start (x ∷ y ∷ ys) up (suc k) lt = Ascends-next (suc x) (y ∷ ys) up.1 k (omega arith)

Ascends-increasing : (start : ℕ) (xs : List ℕ) → Ascends start xs → IsStrictlyIncreasing xs
Ascends-increasing start xs up = λ k lt. let next : suc k ≡ k + 1 = omega arith in subst (λ n. get_or xs k 0 < get_or xs n 0) next (Ascends-next start xs up k (omega arith))

ones-ascend : (words : List ℕ) (start count : ℕ) → Ascends start (map (λ (pair : ℕ × ℕ). pair.0) (ones_among (bit_pairs words start start count)))
unfolding bit_pairs
ones-ascend words start zero = tt
ones-ascend words start (suc count) =
    let pair : ℕ × ℕ = (start, packed_bit words start) in
    let rest = ones_among (bit_pairs words (suc start) (suc start) count) in
    let up = ones-ascend words (suc start) count in
    let P = λ (b : Bool). Ascends start (map (λ (p : ℕ × ℕ). p.0) (cond b (pair ∷ rest) rest)) in
    elim (eqb_tells pair.1 1) [
      | inl e ↦ subst P (sym e.0) (omega arith, up)
      | inr e ↦ subst P (sym e.0) (Ascends-lower start (suc start) (map (λ (p : ℕ × ℕ). p.0) rest) (omega arith) up)
    ]

-- the places of a row's ones, as the pairs give them
abbrev places_of_ones : List ℕ → ℕ → ℕ → List ℕ
places_of_ones words start end = map (λ (pair : ℕ × ℕ). pair.0) (ones_among (bit_pairs words start start (end - start)))

pub places-ascend : (words : List ℕ) (start end : ℕ) → IsStrictlyIncreasing (places_of_ones words start end)
places-ascend words start end = Ascends-increasing start (places_of_ones words start end) (ones-ascend words start (end - start))

count-places : (k : ℕ) (pairs : List (ℕ × ℕ)) → All (λ (pair : ℕ × ℕ). pair.1 ≡ 1) pairs → count_by (λ place. place == k) (map (λ (pair : ℕ × ℕ). pair.0) pairs) ≡ ones_at k pairs
count-places k [] all = refl
count-places k (pair ∷ pairs) all =
    let one : pair.1 ≡ 1 = all 0 pair (omega arith) in
    let rest = count-places k pairs (λ i d lt. all (suc i) d (omega arith)) in
    let head : cond (pair.0 == k) 1 0 ≡ is_one_at k pair =
    elim (eqb_tells pair.0 k) [ inl e ↦ ap (λ b. cond b 1 0) e.0 ∙ sym (is_one_at-one k pair e.1 one) | inr e ↦ ap (λ b. cond b 1 0) e.0 ∙ sym (is_one_at-other k pair e.1) ]
    in
    sum_by-cons (λ place. cond (place == k) 1 0) pair.0 (map (λ (p : ℕ × ℕ). p.0) pairs)
    ∙ ap (λ n. n + count_by (λ place. place == k) (map (λ (p : ℕ × ℕ). p.0) pairs)) head
    ∙ ap (λ n. is_one_at k pair + n) rest
    ∙ sym (ones_at-cons k pair pairs)

pub are_places_of_ones : (words : List ℕ) (start end : ℕ) → start ≤ end → ArePlacesOfOnes (packed_bit words) start end (places_of_ones words start end)
are_places_of_ones words start end range =
    let pairs = bit_pairs words start start (end - start) in
    let ones = are_ones_of words start end range in
    let all : All (λ (pair : ℕ × ℕ). pair.1 ≡ 1) (ones_among pairs) = λ i d lt. eqb-true (get_or (ones_among pairs) i d).1 1 (filter_passes (λ (pair : ℕ × ℕ). pair.1 == 1) pairs i d lt) in
    record {
      within = All-map (λ k. (start ≤ k) × (k < end)) (λ (pair : ℕ × ℕ). pair.0) (ones_among pairs) (λ i d lt. let place = ones.within i d lt in (place.from, place.below));
      once = λ k from below. count-places k (ones_among pairs) all ∙ ones.once k from below;
    }

length-bit_pairs : (words : List ℕ) (start count : ℕ) → length (bit_pairs words start start count) ≡ count
unfolding bit_pairs
length-bit_pairs words start zero = refl
length-bit_pairs words start (suc count) = ap suc (length-bit_pairs words (suc start) count)

pub length-ones : (words : List ℕ) (start count : ℕ) → length (ones_among (bit_pairs words start start count)) ≤ count
length-ones words start count =
    let pairs = bit_pairs words start start count in
    omega (arith, length-filter (λ (pair : ℕ × ℕ). pair.1 == 1) pairs, count_by-le-length (λ (pair : ℕ × ℕ). pair.1 == 1) pairs, length-bit_pairs words start count)
