-- Lists that follow one another in one list, each the places of a row's ones.
use Rattle.std.proofs.Common.{refl, ◌≡◌, ℕ, zero, suc, ◌+◌, ◌-◌, ◌<◌, ◌≤◌, cond, List, [], ◌∷◌, ◌++◌, All, length, map, filter, take, drop, sym, ap, subst, ◌∙◌, arith, inl, inr, zero-add, add-zero, append-nil, append_assoc}
use Rattle.std.specs.Prelude.{◌==◌, count_by, nat_lt, slice_index, slice_range}
use Rattle.std.proofs.lemmas.Bool.{cases_lt, le-ltb, lt-ltb}
use Rattle.std.proofs.lemmas.Bool.Decides.{eqb_tells}
use Rattle.std.proofs.lemmas.List.{length-append, length-drop, take-append-drop, take_all, take_rest, length-take-le}
use Rattle.std.proofs.lemmas.List.FromFn.{map-range_with_len_more, sum_by-map-range_with_len_more}
use Rattle.std.proofs.lemmas.List.Folds.{concat-append}
use Rattle.std.specs.List.{concat, range_with_len, sum_by}
use Rattle.std.proofs.lemmas.List.Elements.{All-append, All-map, All-filter, All-weaker}
use Rattle.std.proofs.lemmas.List.Sums.{sum_by-cons, sum_by-append}
use Rattle.std.proofs.Math.Seq.{take-add, take-append_seam, drop-append_seam, get_or-append_seam}
use Rattle.std.proofs.Math.ListN.{get_or-append}
use Rattle.rq_standard.specs.BitTableSteps.{ArePlacesOfOnes, AreOnesOf}
use Rattle.rq_standard.specs.BitTableSteps as steps
use Rattle.rq_standard.proofs.BitTableLaws.{is_one_at-one, is_one_at-zero, is_one_at-other, ones_at-cons}
use Rattle.rq_parts.specs.ImmutableListMap.{lists_between}
use Rattle.rq_parts.proofs.KeyedLists.{list_read, length-lists}
use Rattle.rq_peeling.proofs.ListParts as parts
use Rattle.rq_peeling.specs.RowDegrees.{CountsBefore}
use Rattle.rq_peeling.specs.RowOnes.{ones_of, AreOnesOfRows, AddsOneColumns, AreAllBetween}
use Rattle.rq_peeling.proofs.Counting.{count_absent, count_nothing}

-- ---- the places of a row's ones

-- the places that come with a one
abbrev pub places_among : List (ℕ × ℕ) → List ℕ
places_among pairs = map (λ pair. pair.0) (filter (λ pair. pair.1 == 1) pairs)

-- the place of a pair counts where the pair is a one
count-places_among : (k : ℕ) (pairs : List (ℕ × ℕ)) → count_by (λ place. place == k) (places_among pairs) ≡ steps.ones_at k pairs
count-places_among k [] = refl
count-places_among k (pair ∷ pairs) =
    let rest = count-places_among k pairs in
    let count = λ (places : List ℕ). count_by (λ place. place == k) places in
    let kept = filter (λ (p : ℕ × ℕ). p.1 == 1) pairs in
    let place = λ (p : ℕ × ℕ). p.0 in
    elim (eqb_tells pair.1 1) [
      | inl e ↦
          ap (λ b. count (map place (cond b (pair ∷ kept) kept))) e.0
          ∙ sum_by-cons (λ p. cond (p == k) 1 0) pair.0 (map place kept)
          ∙ ap (λ n. cond (pair.0 == k) 1 0 + n) rest
          ∙ ap (λ n. n + steps.ones_at k pairs) (elim (eqb_tells pair.0 k) [
            | inl f ↦ ap (λ b. cond b 1 0) f.0 ∙ sym (is_one_at-one k pair f.1 e.1)
            | inr f ↦ ap (λ b. cond b 1 0) f.0 ∙ sym (is_one_at-other k pair f.1)
          ])
      | inr e ↦
          ap (λ b. count (map place (cond b (pair ∷ kept) kept))) e.0
          ∙ rest ∙ sym (zero-add (steps.ones_at k pairs))
          ∙ ap (λ n. n + steps.ones_at k pairs) (sym (is_one_at-zero k pair e.1))
    ] ∙ sym (ones_at-cons k pair pairs)

-- what holds of the place of each pair holds of the places
All-places : (P : ℕ → Type 0) (pairs : List (ℕ × ℕ)) → All (λ (pair : ℕ × ℕ). P pair.0) pairs → All P (places_among pairs)
All-places P pairs all = All-map P (λ (pair : ℕ × ℕ). pair.0) (filter (λ (pair : ℕ × ℕ). pair.1 == 1) pairs) (All-filter (λ (pair : ℕ × ℕ). pair.1 == 1) (λ (pair : ℕ × ℕ). P pair.0) pairs all)

pub places_of_pairs : (bit : ℕ → ℕ) (start end : ℕ) (pairs : List (ℕ × ℕ)) → AreOnesOf bit start end pairs → ArePlacesOfOnes bit start end (places_among pairs)
places_of_pairs bit start end pairs ones = record {
  within = All-places (λ k. (start ≤ k) × (k < end)) pairs (λ i d lt. ((ones.within i d lt).from, (ones.within i d lt).below));
  once = λ k from below. count-places_among k pairs ∙ ones.once k from below;
}

-- the places of the ones of two parts of a row that meet
pub places_together : (bit : ℕ → ℕ) (start middle end : ℕ) (xs ys : List ℕ) → start ≤ middle → middle ≤ end → ArePlacesOfOnes bit start middle xs → ArePlacesOfOnes bit middle end ys → ArePlacesOfOnes bit start end (xs ++ ys)
places_together bit start middle end xs ys low high first second = record {
  within = All-append (λ k. (start ≤ k) × (k < end)) xs ys
      (λ i d lt. let here = first.within i d lt in (here.0, (let below = here.1 in omega arith)))
      (λ i d lt. let here = second.within i d lt in ((let from = here.0 in omega arith), here.1));
  once = λ k from below.
      sum_by-append (λ place. cond (place == k) 1 0) xs ys
      ∙ elim (cases_lt k middle) [
        | inl before ↦ ap (λ n. count_by (λ place. place == k) xs + n) (count_absent ys k (λ is. let here = (second.within is.0 k is.1).0 in omega (arith, here, is.2, before))) ∙ add-zero (count_by (λ place. place == k) xs) ∙ first.once k from before
        | inr after ↦ ap (λ n. n + count_by (λ place. place == k) ys) (count_absent xs k (λ is. let here = (first.within is.0 k is.1).1 in omega (arith, here, is.2, after))) ∙ zero-add (count_by (λ place. place == k) ys) ∙ second.once k after below
      ];
}

-- ---- one more list

module _ (old new : List ℕ) (kept : take (length old) new ≡ old) where
  behind : new ≡ old ++ drop (length old) new
  behind = sym (take-append-drop (length old) new) ∙ ap (λ l. l ++ drop (length old) new) kept

  longer : length old ≤ length new
  longer = let both = ap length behind ∙ length-append old (drop (length old) new) in omega arith

  range_kept : (a b : ℕ) → a ≤ b → b ≤ length old → slice_range new a b ≡ slice_range old a b
  range_kept a b le within =
      ap (λ l. slice_range l a b) behind ∙ parts.range_kept old a (drop (length old) new) b le within

  module _ (starts : List ℕ) (all : AreAllBetween starts old) where
    start_kept : (key : ℕ) → key < length starts → slice_index (starts ++ length new ∷ []) key ≡ slice_index starts key
    start_kept key lt = get_or-append starts (length new ∷ []) 0 key lt

    start_new : (key : ℕ) → key ≡ length starts → slice_index (starts ++ length new ∷ []) key ≡ length new
    start_new key is = ap (slice_index (starts ++ length new ∷ [])) is ∙ get_or-append_seam starts (length new) [] 0

    one_more : length (starts ++ length new ∷ []) ≡ length starts + 1
    one_more = length-append starts (length new ∷ [])

    start_old : (key : ℕ) → key + 1 ≡ length starts → slice_index starts key ≡ length old
    start_old key is = let place : key ≡ length starts - 1 = omega arith in ap (slice_index starts) place ∙ all.last

    pub between_next : AreAllBetween (starts ++ length new ∷ []) new
    between_next = record {
      rise = record {
        some = omega (arith, one_more);
        rise = λ key lt.
            elim (cases_lt (key + 1) (length starts)) [
              | inl before ↦ rw (start_kept key (omega arith), start_kept (key + 1) before) (all.rise.rise key before)
              | inr after ↦
                  let end : key + 1 ≡ length starts = omega (arith, one_more) in
                  rw (start_kept key (omega arith), start_new (key + 1) end, start_old key end) longer
            ];
        within = λ key lt.
            elim (cases_lt key (length starts)) [
              | inl before ↦ rw (start_kept key before) (omega (arith, all.rise.within key before, longer))
              | inr after ↦ rw (start_new key (omega (arith, one_more))) (omega arith)
            ];
      };
      first = start_kept 0 all.rise.some ∙ all.first;
      last = start_new (length (starts ++ length new ∷ []) - 1) (omega (arith, one_more));
    }

    list_kept : (i : ℕ) → i + 1 < length starts → ones_of (lists_between (starts ++ length new ∷ []) new) i ≡ ones_of (lists_between starts old) i
    list_kept i lt =
        sym (list_read (starts ++ length new ∷ []) new i (omega (arith, one_more)))
        ∙ rw (start_kept i (omega arith), start_kept (i + 1) lt) (range_kept (slice_index starts i) (slice_index starts (i + 1)) (all.rise.rise i lt) (all.rise.within (i + 1) lt))
        ∙ list_read starts old i lt

    list_new : (i : ℕ) → i + 1 ≡ length starts → ones_of (lists_between (starts ++ length new ∷ []) new) i ≡ drop (length old) new
    list_new i is =
        sym (list_read (starts ++ length new ∷ []) new i (omega (arith, one_more)))
        ∙ rw (start_kept i (omega arith), start_new (i + 1) is, start_old i is) (take_rest new (length old))

    pub ones_next : (width row : ℕ) (bit : ℕ → ℕ → ℕ) → AreOnesOfRows row width bit (lists_between starts old) → ArePlacesOfOnes (bit row) 0 width (drop (length old) new) → AreOnesOfRows (row + 1) width bit (lists_between (starts ++ length new ∷ []) new)
    ones_next width row bit ones next =
        let height : length starts ≡ row + 1 = omega (arith, ones.count, length-lists starts old, all.rise.some) in
        record {
          count = length-lists (starts ++ length new ∷ []) new ∙ omega (arith, one_more, height);
          each = λ i lt.
              elim (cases_lt i row) [
                | inl before ↦ rw (list_kept i (omega arith)) (ones.each i before)
                | inr after ↦
                    let here : i ≡ row = omega arith in
                    rw (here, list_new row (omega arith)) next
              ];
        }

    -- and the number of its ones before the dense columns
    pub counts_next : (lt_columns count : ℕ) (counts : List ℕ) → length counts + 1 ≡ length starts → CountsBefore lt_columns (lists_between starts old) counts → count ≡ count_by (λ column. nat_lt column lt_columns) (drop (length old) new)
        → CountsBefore lt_columns (lists_between (starts ++ length new ∷ []) new) (counts ++ count ∷ [])
    counts_next lt_columns count counts long so is r l =
        elim (cases_lt r (length counts)) [
          | inl before ↦ rw (list_kept r (omega (arith, before, long)), get_or-append counts (count ∷ []) 0 r before) (so r (omega (arith, length-lists starts old, before, long)))
          | inr after ↦
              let here : r ≡ length counts = omega (arith, after, length-lists (starts ++ length new ∷ []) new, one_more, l, long) in
              rw (here, list_new (length counts) long) (get_or-append_seam counts count [] 0 ∙ is)
        ]

-- ---- the number of ones

module _ (starts values : List ℕ) (all : AreAllBetween starts values) where
  abbrev list_of : ℕ → List ℕ
  list_of row = slice_range values (slice_index starts row) (slice_index starts (row + 1))

  length-list_of : (row : ℕ) → row + 1 < length starts → length (list_of row) ≡ slice_index starts (row + 1) - slice_index starts row
  length-list_of row l = length-take-le (slice_index starts (row + 1) - slice_index starts row) (drop (slice_index starts row) values) (omega (arith, all.rise.within (row + 1) l, length-drop (slice_index starts row) values))

  ones_step : (n : ℕ) → n + 1 < length starts → sum_by length (map list_of (range_with_len 0 n)) ≡ slice_index starts n → sum_by length (map list_of (range_with_len 0 (n + 1))) ≡ slice_index starts (n + 1)
  ones_step n l before =
      let here = length-list_of n l in
      let more = sum_by-map-range_with_len_more length list_of 0 n n (zero-add n) in
      let rise = all.rise.rise n l in
      more ∙ omega (arith, before, here, rise)

  ones_before : (n : ℕ) → n < length starts → sum_by length (map list_of (range_with_len 0 n)) ≡ slice_index starts n
  ones_before zero l = sym all.first
  ones_before (suc n) l =
      let next : n + 1 ≡ suc n = omega arith in
      subst (λ m. sum_by length (map list_of (range_with_len 0 m)) ≡ slice_index starts m) next (ones_step n (omega arith) (ones_before n (omega arith)))

  pub ones_counted : sum_by length (lists_between starts values) ≡ length values
  ones_counted = ones_before (length starts - 1) (omega (arith, all.rise.some)) ∙ all.last

  range_next : (n : ℕ) → n + 1 < length starts → take (slice_index starts n) values ++ list_of n ≡ take (slice_index starts (n + 1)) values
  range_next n l =
      let rise = all.rise.rise n l in
      let to : slice_index starts n + (slice_index starts (n + 1) - slice_index starts n) ≡ slice_index starts (n + 1) = omega (arith, rise) in
      sym (take-add (slice_index starts n) (slice_index starts (n + 1) - slice_index starts n) values) ∙ ap (λ (m : ℕ). take m values) to

  joined_before : (n : ℕ) → n < length starts → concat (map list_of (range_with_len 0 n)) ≡ take (slice_index starts n) values
  joined_before zero l = rw all.first refl
  joined_before (suc n) l =
      let next : n + 1 ≡ suc n = omega arith in
      let more = map-range_with_len_more list_of 0 n n (zero-add n) in
      let joined = ap concat more ∙ concat-append (map list_of (range_with_len 0 n)) (list_of n ∷ []) ∙ ap (λ l. concat (map list_of (range_with_len 0 n)) ++ l) (append-nil (list_of n)) in
      subst (λ (m : ℕ). concat (map list_of (range_with_len 0 m)) ≡ take (slice_index starts m) values) next (joined ∙ ap (λ l. l ++ list_of n) (joined_before n (omega arith)) ∙ range_next n (omega arith))

  -- one after the other they are all of the values
  pub lists_joined : concat (lists_between starts values) ≡ values
  lists_joined = joined_before (length starts - 1) (omega (arith, all.rise.some)) ∙ ap (λ (m : ℕ). take m values) all.last ∙ take_all (length values) values (omega arith)

-- ---- how many ones stand before the dense columns

-- columns before the dense ones, and others
pub counted_before : (lt_columns : ℕ) (xs ys : List ℕ) → All (λ k. k < lt_columns) xs → All (λ k. lt_columns ≤ k) ys → count_by (λ k. nat_lt k lt_columns) (xs ++ ys) ≡ length xs
counted_before lt_columns xs ys low high =
    sum_by-append (λ k. cond (nat_lt k lt_columns) 1 0) xs ys
    ∙ ap (λ n. count_by (λ k. nat_lt k lt_columns) xs + n) (count_nothing (λ k. nat_lt k lt_columns) ys (λ k is. le-ltb k lt_columns (subst (λ (c : ℕ). lt_columns ≤ c) is.2 (high is.0 k is.1))))
    ∙ add-zero (count_by (λ k. nat_lt k lt_columns) xs)
    ∙ all xs low where
      all : (xs : List ℕ) → All (λ k. k < lt_columns) xs → count_by (λ k. nat_lt k lt_columns) xs ≡ length xs
      all [] low = refl
      all (x ∷ xs) low =
          let below : x < lt_columns = low 0 x (omega arith) in
          let head : ◌≡◌ {A = ℕ} (cond (nat_lt x lt_columns) 1 0) 1 = ap (λ b. cond b 1 0) (lt-ltb x lt_columns below) in
          sum_by-cons (λ k. cond (nat_lt k lt_columns) 1 0) x xs ∙ ap (λ n. n + count_by (λ k. nat_lt k lt_columns) xs) head ∙ ap (λ n. 1 + n) (all xs (λ i d l. low (suc i) d (omega arith))) ∙ omega arith

-- ---- two parts behind a list, the second that of a slice

module _ (old first second slice middle new : List ℕ) (is_middle : middle ≡ old ++ first) (is_new : new ≡ middle ++ slice) (is_slice : slice ≡ second) where
  both_behind : new ≡ old ++ (first ++ second)
  both_behind = is_new ∙ ap (λ l. middle ++ l) is_slice ∙ ap (λ l. l ++ second) is_middle ∙ append_assoc old first second

  rest : drop (length old) new ≡ first ++ second
  rest = ap (drop (length old)) both_behind ∙ drop-append_seam old (first ++ second)

  -- the places of two parts of a row
  pub adds_ones : (bit : ℕ → ℕ) (width : ℕ) → ArePlacesOfOnes bit 0 width (first ++ second) → AddsOneColumns bit width old new
  adds_ones bit width ones = record {
    kept = ap (take (length old)) both_behind ∙ take-append_seam old (first ++ second);
    ones = subst (ArePlacesOfOnes bit 0 width) (sym rest) ones;
  }

  -- a row's places, those before the dense columns first
  pub adds_counted : (bit : ℕ → ℕ) (lt_columns width : ℕ) → ArePlacesOfOnes bit 0 lt_columns first → ArePlacesOfOnes bit lt_columns width second → length middle - length old ≡ count_by (λ k. nat_lt k lt_columns) (drop (length old) new)
  adds_counted bit lt_columns width low high =
      let long : length middle ≡ length old + length first = ap length is_middle ∙ length-append old first in
      let many = counted_before lt_columns first second (All-weaker (λ k. (0 ≤ k) × (k < lt_columns)) (λ k. k < lt_columns) (λ k b. b.1) first low.within) (All-weaker (λ k. (lt_columns ≤ k) × (k < width)) (λ k. lt_columns ≤ k) (λ k b. b.0) second high.within) in
      rw rest (omega (arith, long, many))
