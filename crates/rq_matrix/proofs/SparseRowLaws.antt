-- What is read from the stored rows of a sparse matrix.
use Rattle.std.proofs.Common.{◌≡◌, ◌≢◌, ℕ, zero, suc, ◌+◌, ◌-◌, ◌<◌, ◌≤◌, List, [], ◌∷◌, length, map, get_or, set, replicate, cond, Bool, true, false, None, Some, Result, Ok, Err, OnOk, OnErr, refl, sym, ap, subst, ◌∙◌, arith, inl, inr, zero-add}
use Rattle.std.specs.Prelude.{unwrap_or, if◌then◌else◌}
use Rattle.std.specs.Int.Bits.{bit_xor}
use Rattle.std.specs.List.{All}
use Rattle.std.specs.List.Sorted.{IsStrictlyIncreasing}
use Rattle.std.proofs.lemmas.Bool.{cases_eq}
use Rattle.std.proofs.lemmas.Bool.Decides.{eqb_tells}
use Rattle.std.proofs.lemmas.List.{get_or_default}
use Rattle.std.proofs.lemmas.List.Elements.{All-cons, All-filter, All-map, All-set, filter_passes}
use Rattle.rq_standard.specs.BitTableSteps.{ones_at, ones_below, ones_between, AreOnesOf, ArePlacesOfOnes}
use Rattle.rq_standard.proofs.BitTableLaws.{is_one_at, is_one_at-other, is_one_at-one, ones_at-cons}
use Rattle.rq_parts.specs.BitPairs.{in_range, sparse_pairs}
use Rattle.rq_parts.specs.SparseBinaryVec.{listed_bit, listed_octet, SetsListed, IsListedSum}
use Rattle.rq_parts.specs.ListedLaws.{listed-self, listed-other}
use Rattle.rq_parts.proofs.ListedBits.{listed-found, ones_below_all}
use Rattle.rq_parts.proofs.SparsePairs.{in_range-true, range-from, range-below}
use Rattle.rq_matrix.specs.Orders.{Order, IsPlacedOrder}
use Rattle.rq_matrix.specs.SparseRows.{IsSparseRow, places_between}
use Rattle.rq_parts.proofs.CountedOnes.{ones_below-same}

-- ---- stored rows

unlisted-above : (n : ℕ) (xs : List ℕ) (k : ℕ) → All (λ one. one < n) xs → n ≤ k → listed_bit xs k ≡ 0
unlisted-above n [] k below above = refl
unlisted-above n (x ∷ xs) k below above = listed-other x xs k (λ same. omega (arith, same, below 0 x (omega arith))) ∙ unlisted-above n xs k (λ i d l. below (suc i) d (omega arith)) above

unlisted : (n : ℕ) (row : List ℕ) (k : ℕ) → IsSparseRow n row → n ≤ k → listed_bit row k ≡ 0
unlisted n row k is above = unlisted-above n row k is.below above

sparse_row : (n : ℕ) (row : List ℕ) → IsStrictlyIncreasing row → ((k : ℕ) → n ≤ k → listed_bit row k ≡ 0) → IsSparseRow n row
sparse_row n row rises none = record { rises = rises; below = ones_below_all row n none }

-- rows without ones
pub empty_rows_are : (n count : ℕ) → All (IsSparseRow n) (replicate count [])
empty_rows_are n zero = λ k d l. absurd (omega arith)
empty_rows_are n (suc count) = All-cons (IsSparseRow n) [] (replicate count []) (record { rises = λ k l. absurd (omega arith); below = λ k d l. absurd (omega arith) }) (empty_rows_are n count)

empty_row : (count row : ℕ) → get_or {A = List ℕ} (replicate count []) row [] ≡ []
empty_row zero row = refl
empty_row (suc count) zero = refl
empty_row (suc count) (suc row) = empty_row count row

pub no_ones : (count row k : ℕ) → listed_bit (get_or (replicate count []) row []) k ≡ 0
no_ones count row k = ap (λ (l : List ℕ). listed_bit l k) (empty_row count row)

-- a row that has a bit set anew, or none
pub row_set : {E : Type 0} → (n : ℕ) (old new : List ℕ) (column octet : ℕ) (result : Result (Unit {0}) E) → IsSparseRow n old → column < n → OnOk result (SetsListed old column octet new) → OnErr result (new ≡ old) → IsStrictlyIncreasing new → IsSparseRow n new
row_set n old new column octet (Ok t) is below sets same rises = sparse_row n new rises (λ k above. sets.elsewhere k (λ e. omega (arith, e)) ∙ unlisted n old k is above)
row_set n old new column octet (Err e) is below sets same rises = subst (IsSparseRow n) (sym same) is

pub octet_or_zero : (row : List ℕ) (k : ℕ) → listed_bit row k < 2 → unwrap_or (listed_octet row k) 0 ≡ listed_bit row k
octet_or_zero row k small =
    elim (eqb_tells (listed_bit row k) 0) [
      | inl e ↦ ap (λ (b : Bool). unwrap_or (if b then None else Some 1) 0) e.0 ∙ sym e.1
      | inr e ↦ ap (λ (b : Bool). unwrap_or (if b then None else Some 1) 0) e.0 ∙ (let some = e.1 in let one : 1 ≡ listed_bit row k = omega arith in one)
    ]

-- ---- the ones of a row in an order of the columns

-- pairs of places with the octet 1 have as many ones at a place as it is listed
ones_at-listed : (k : ℕ) (places : List ℕ) → ones_at k (map (λ place. (place, 1)) places) ≡ listed_bit places k
ones_at-listed k [] = refl
ones_at-listed k (place ∷ places) =
    let rest = ones_at-listed k places in
    let pairs : List (ℕ × ℕ) = map (λ p. (p, 1)) places in
    ones_at-cons k (place, 1) pairs
    ∙ elim (cases_eq place k) [
      | inl e ↦ ap (λ n. n + ones_at k pairs) (is_one_at-one k (place, 1) e refl) ∙ ap (λ n. 1 + n) rest ∙ sym (listed-self place places k (sym e))
      | inr d ↦ ap (λ n. n + ones_at k pairs) (is_one_at-other k (place, 1) d) ∙ zero-add (ones_at k pairs) ∙ rest ∙ sym (listed-other place places k (λ e. d (sym e)))
    ]

pairs_of_places : (ones places : List ℕ) (start end : ℕ) → sparse_pairs ones places start end ≡ map (λ place. (place, 1)) (places_between ones places start end)
pairs_of_places [] places start end = refl
pairs_of_places (x ∷ xs) places start end = among (in_range start end (get_or places x 0)) (pairs_of_places xs places start end) where
  among : (b : Bool) → sparse_pairs xs places start end ≡ map (λ place. (place, 1)) (places_between xs places start end)
      → cond b ((get_or places x 0, 1) ∷ sparse_pairs xs places start end) (sparse_pairs xs places start end) ≡ map (λ place. (place, 1)) (cond b (get_or places x 0 ∷ places_between xs places start end) (places_between xs places start end))
  among true rest = ap (λ (l : List (ℕ × ℕ)). (get_or places x 0, 1) ∷ l) rest
  among false rest = rest

module _ (o : Order) (is : IsPlacedOrder o) (start end : ℕ) where
  -- a number stands at place k if it is the k-th, and else elsewhere
  place_of : (x k : ℕ) → k < length o.order → x ≡ get_or o.order k 0 → get_or o.places x 0 ≡ k
  place_of x k in_k e = ap (λ n. get_or o.places n 0) e ∙ (is.ordered k in_k).1

  elsewhere : (x k : ℕ) → x < length o.order → x ≢ get_or o.order k 0 → get_or o.places x 0 ≢ k
  elsewhere x k in_x other same = other (sym (is.placed x in_x).1 ∙ ap (λ n. get_or o.order n 0) same)

  between-once : (rows : List ℕ) → All (λ row. row < length o.order) rows → (k : ℕ) → k < length o.order → start ≤ k → k < end → listed_bit (places_between rows o.places start end) k ≡ listed_bit rows (get_or o.order k 0)
  between-once [] known k in_k from below = refl
  between-once (x ∷ xs) known k in_k from below =
      let rest = between-once xs (λ i d l. known (suc i) d (omega arith)) k in_k from below in
      let place = get_or o.places x 0 in
      let places = places_between xs o.places start end in
      let among : Bool → ℕ = λ b. listed_bit (cond b (place ∷ places) places) k in
      elim (cases_eq x (get_or o.order k 0)) [
        | inl e ↦
            let here = place_of x k in_k e in
            ap among (in_range-true start end place (omega arith) (omega arith)) ∙ listed-self place places k (sym here) ∙ ap (λ n. 1 + n) rest ∙ sym (listed-self x xs (get_or o.order k 0) (sym e))
        | inr d ↦
            let there = elsewhere x k (known 0 x (omega arith)) d in
            let skipped : (b : Bool) → among b ≡ listed_bit places k = λ b. elim b as (λ v. listed_bit (cond v (place ∷ places) places) k ≡ listed_bit places k) [ true ↦ listed-other place places k (λ e. there (sym e)) | false ↦ refl ] in
            skipped (in_range start end place) ∙ rest ∙ sym (listed-other x xs (get_or o.order k 0) (λ e. d (sym e)))
      ]

  pairs-once : (ones : List ℕ) → All (λ one. one < length o.order) ones → (k : ℕ) → k < length o.order → start ≤ k → k < end → ones_at k (sparse_pairs ones o.places start end) ≡ listed_bit ones (get_or o.order k 0)
  pairs-once ones known k in_k from below =
      ap (ones_at k) (pairs_of_places ones o.places start end) ∙ ones_at-listed k (places_between ones o.places start end) ∙ between-once ones known k in_k from below

  pub sparse_ones : (bit : ℕ → ℕ) (ones : List ℕ) → IsSparseRow (length o.order) ones → end ≤ length o.order → ((k : ℕ) → k < end → bit k ≡ listed_bit ones (get_or o.order k 0)) → AreOnesOf bit start end (sparse_pairs ones o.places start end)
  sparse_ones bit ones row few bits =
      let all = map (λ one. (get_or o.places one 0, 1)) ones in
      let stands : ℕ × ℕ → Type 0 = λ (pair : ℕ × ℕ). (pair.1 ≡ 1) × (listed_bit ones (get_or o.order pair.0 0) ≡ 1) in
      let standing : All stands all = All-map stands (λ one. (get_or o.places one 0, 1)) ones (λ i d l.
      let same = get_or_default ones i d 0 l in
      let there = (is.placed (get_or ones i d) (row.below i d l)).1 in
      (refl, ap (listed_bit ones) there ∙ listed-found ones (get_or ones i d) i row.rises (record { within = l; is = sym same }))) in
      let kept : All stands (sparse_pairs ones o.places start end) = All-filter (λ pair. in_range start end pair.0) stands all standing in
      record {
        within = λ i d l.
            let pair = get_or (sparse_pairs ones o.places start end) i d in
            let passes = filter_passes (λ (pair : ℕ × ℕ). in_range start end pair.0) all i d l in
            let below = range-below start end pair.0 passes in
            record { from = range-from start end pair.0 passes; below = below; octet = (kept i d l).0 ∙ sym (bits pair.0 below ∙ (kept i d l).1) };
        once = λ k from below. pairs-once ones row.below k (omega arith) from below ∙ sym (bits k below);
      }

  pub between_places : (bit : ℕ → ℕ) (rows : List ℕ) → ArePlacesOfOnes bit 0 (length o.order) rows → end ≤ length o.order → ArePlacesOfOnes (λ k. bit (get_or o.order k 0)) start end (places_between rows o.places start end)
  between_places bit rows places few =
      let known : All (λ row. row < length o.order) rows = λ i d l. (places.within i d l).1 in
      record {
        within = λ i d l.
            let passes = filter_passes (in_range start end) (map (λ k. get_or o.places k 0) rows) i d l in
            (range-from start end (get_or (places_between rows o.places start end) i d) passes, range-below start end (get_or (places_between rows o.places start end) i d) passes);
        once = λ k from below. between-once rows known k (omega arith) from below ∙ places.once (get_or o.order k 0) (omega arith) (is.ordered k (omega arith)).0;
      }

-- ---- how many ones

ones_below-zero : (f : ℕ → ℕ) (n : ℕ) → ((k : ℕ) → k < n → f k ≡ 0) → ones_below f n ≡ 0
ones_below-zero f zero none = refl
ones_below-zero f (suc n) none = omega (arith, none n (omega arith), ones_below-zero f n (λ k l. none k (omega arith)))

ones_below-one : (f : ℕ → ℕ) (n p : ℕ) → p < n → f p ≡ 1 → ((k : ℕ) → k < n → k ≢ p → f k ≡ 0) → ones_below f n ≡ 1
ones_below-one f zero p in_p one none = absurd (omega arith)
ones_below-one f (suc n) p in_p one none =
    elim (cases_eq p n) [
      | inl e ↦ omega (arith, ap f e, one, ones_below-zero f n (λ k l. none k (omega arith) (λ same. omega arith)))
      | inr d ↦ omega (arith, none n (omega arith) (λ same. d (sym same)), ones_below-one f n p (omega arith) one (λ k l other. none k (omega arith) other))
    ]

ones_below-sum : (f g : ℕ → ℕ) (n : ℕ) → ones_below (λ k. f k + g k) n ≡ ones_below f n + ones_below g n
ones_below-sum f g zero = refl
ones_below-sum f g (suc n) = omega (arith, ones_below-sum f g n)

count-pairs : (start n : ℕ) (pairs : List (ℕ × ℕ)) → All (λ (pair : ℕ × ℕ). (start ≤ pair.0) × (pair.0 < start + n) × (pair.1 ≡ 1)) pairs → length pairs ≡ ones_below (λ k. ones_at (start + k) pairs) n
count-pairs start n [] all = sym (ones_below-zero (λ k. 0) n (λ k l. refl))
count-pairs start n (pair ∷ pairs) all =
    let first : (start ≤ pair.0) × (pair.0 < start + n) × (pair.1 ≡ 1) = all 0 pair (omega arith) in
    let rest = count-pairs start n pairs (λ i d l. all (suc i) d (omega arith)) in
    let place : start + (pair.0 - start) ≡ pair.0 = omega (arith, first.0) in
    let one = ones_below-one (λ k. is_one_at (start + k) pair) n (pair.0 - start) (omega (arith, first.0, first.1)) (is_one_at-one (start + (pair.0 - start)) pair (sym place) first.2) (λ k l other. is_one_at-other (start + k) pair (λ same. other (omega (arith, same)))) in
    let both = ones_below-same (λ k. ones_at (start + k) (pair ∷ pairs)) (λ k. is_one_at (start + k) pair + ones_at (start + k) pairs) n (λ k l. ones_at-cons (start + k) pair pairs) in
    omega (arith, rest, one, both, ones_below-sum (λ k. is_one_at (start + k) pair) (λ k. ones_at (start + k) pairs) n)

pub sparse_count : (bit : ℕ → ℕ) (ones places : List ℕ) (start end : ℕ) → start ≤ end → AreOnesOf bit start end (sparse_pairs ones places start end) → length (sparse_pairs ones places start end) ≡ ones_between bit start end
sparse_count bit ones places start end range are =
    let pairs = sparse_pairs ones places start end in
    let octets : All (λ (pair : ℕ × ℕ). pair.1 ≡ 1) pairs = All-filter (λ pair. in_range start end pair.0) (λ (pair : ℕ × ℕ). pair.1 ≡ 1) (map (λ one. (get_or places one 0, 1)) ones) (All-map (λ (pair : ℕ × ℕ). pair.1 ≡ 1) (λ one. (get_or places one 0, 1)) ones (λ i d l. refl)) in
    count-pairs start (end - start) pairs (λ i d l. let place = are.within i d l in (place.from, omega (arith, place.below), octets i d l))
    ∙ ones_below-same (λ k. ones_at (start + k) pairs) (λ k. bit (start + k)) (end - start) (λ k l. are.once (start + k) (omega arith) (omega arith))

-- ---- a row added to another one

pub rows_added : {E : Type 0} → (n : ℕ) (rows new : List (List ℕ)) (dest src : ℕ) (result : Result (Unit {0}) E) → All (IsSparseRow n) rows → dest < length rows → src < length rows → new ≡ set rows dest (get_or new dest []) → OnOk result (IsListedSum (get_or rows dest []) (get_or rows src []) (get_or new dest []))
    → OnErr result (new ≡ rows) → IsStrictlyIncreasing (get_or new dest []) → All (IsSparseRow n) new
rows_added n rows new dest src (Ok t) sparse in_dest in_src is sums same rises =
    let row = sparse_row n (get_or new dest []) rises (λ k above.
    sums k ∙ ap (λ m. bit_xor m (listed_bit (get_or rows src []) k)) (unlisted n (get_or rows dest []) k (sparse dest [] in_dest) above) ∙ ap (bit_xor 0) (unlisted n (get_or rows src []) k (sparse src [] in_src) above)) in
    subst (All (IsSparseRow n)) (sym is) (All-set (IsSparseRow n) rows dest (get_or new dest []) row sparse)
rows_added n rows new dest src (Err e) sparse in_dest in_src is sums same rises = subst (All (IsSparseRow n)) (sym same) sparse
