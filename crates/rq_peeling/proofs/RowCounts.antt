-- How many ones a row has where a matrix is changed.
use Rattle.std.proofs.Common.{◌≡◌, ◌≢◌, ℕ, zero, suc, ◌+◌, ◌-◌, ◌<◌, ◌≤◌, length, set, get_or, sym, ap, ◌∙◌, refl, arith, inl, inr, get_or-set_same, get_or-set_other, length-set}
use Rattle.std.specs.List.{swap}
use Rattle.std.proofs.lemmas.Bool.{cases_eq}
use Rattle.std.proofs.lemmas.List.Edits.{swapped_from_swap, length-swap}
use Rattle.rq_algebra.specs.Changes.{with_at}
use Rattle.rq_algebra.proofs.ChangeLaws.{with_at_same, with_at_other}
use Rattle.rq_standard.specs.BitTable.{BitTable, IsBitTable}
use Rattle.rq_standard.specs.BitTableSteps.{ones_below, ones_between, HasSameShape, SwapsRows, SwapsPlaces, SwapsColumns}
use Rattle.rq_parts.proofs.CountedOnes.{ones_below-same}
use Rattle.rq_peeling.specs.FirstPhaseRowSelectionStats.{RowCounts, IsLeftOf, KeepsCounts, ChangesRow, ones_in_range}
use Rattle.rq_peeling.specs.RowDegrees.{HasLeastOnes}

-- the same bits in a range have as many ones
pub ones_between-same : (f g : ℕ → ℕ) (start end : ℕ) → ((k : ℕ) → k < end → f k ≡ g k) → ones_between f start end ≡ ones_between g start end
ones_between-same f g start end same = ones_below-same (λ k. f (start + k)) (λ k. g (start + k)) (end - start) (λ k l. same (start + k) (omega arith))

-- where one place differs, the counts differ as the bits there do
ones_below-changed : (f g : ℕ → ℕ) (n i : ℕ) → i < n → ((k : ℕ) → k < n → k ≢ i → g k ≡ f k) → ones_below g n + f i ≡ ones_below f n + g i
ones_below-changed f g zero i l same = absurd (omega arith)
ones_below-changed f g (suc n) i l same = elim (cases_eq i n) [
  | inl e ↦
      let rest = ones_below-same g f n (λ k m. same k (omega arith) (λ h. let no : ⊥ = omega (arith, h) in no)) in
      let at_f = ap f e in
      let at_g = ap g e in
      omega arith
  | inr d ↦
      let rest = ones_below-changed f g n i (omega arith) (λ k m other. same k (omega arith) other) in
      let here = same n (omega arith) (λ h. d (sym h)) in
      omega arith
]

-- places that are exchanged have as many ones together
ones_below-swapped : (f g : ℕ → ℕ) (n i j : ℕ) → i < n → j < n → g i ≡ f j → g j ≡ f i → ((k : ℕ) → k < n → k ≢ i → k ≢ j → g k ≡ f k) → ones_below g n ≡ ones_below f n
ones_below-swapped f g n i j l m first second same = elim (cases_eq i j) [
  | inl e ↦ ones_below-same g f n (λ k o. elim (cases_eq k i) [
    | inl h ↦ ap g h ∙ first ∙ ap f (sym e ∙ sym h)
    | inr h ↦ same k o h (λ q. h (q ∙ sym e))
  ])
  | inr d ↦
      let half = with_at f i (f j) in
      let here = with_at_same f i (f j) i refl in
      let there = with_at_other f i (f j) j (λ h. d (sym h)) in
      let one = ones_below-changed f half n i l (λ k o other. with_at_other f i (f j) k other) in
      let two = ones_below-changed half g n j m (λ k o other. elim (cases_eq k i) [
        | inl h ↦ ap g h ∙ first ∙ sym here ∙ ap half (sym h)
        | inr h ↦ same k o h other ∙ sym (with_at_other f i (f j) k h)
      ]) in
      omega arith
]

pub ones_between-swapped : (f g : ℕ → ℕ) (start end width i j : ℕ) → start ≤ i → i < end → start ≤ j → j < end → end ≤ width → SwapsPlaces width f i j g → ones_between g start end ≡ ones_between f start end
ones_between-swapped f g start end width i j from l from' m within swaps =
    let at_i : start + (i - start) ≡ i = omega arith in
    let at_j : start + (j - start) ≡ j = omega arith in
    ones_below-swapped (λ k. f (start + k)) (λ k. g (start + k)) (end - start) (i - start) (j - start) (omega arith) (omega arith)
    (ap g at_i ∙ swaps.first ∙ ap f (sym at_j))
    (ap g at_j ∙ swaps.second ∙ ap f (sym at_i))
    (λ k o d d'. swaps.elsewhere (start + k) (omega arith) (λ e. d (omega (arith, e))) (λ e. d' (omega (arith, e))))

-- a matrix of the same shape has the same rows and columns left
left_kept : (m n : BitTable) (counts : RowCounts) → HasSameShape m n → IsLeftOf m counts → IsLeftOf n counts
left_kept m n counts shape left = record { rows = omega (arith, left.rows, shape.height); columns = left.columns; before = omega (arith, left.before, shape.boundary) }

-- the columns of a row that are left are among the matrix's
inside : (m : BitTable) (counts : RowCounts) → IsBitTable m → IsLeftOf m counts → counts.end_col ≤ m.width
inside m counts is left = omega (arith, is.within, left.before)

pub rows_swapped : (counts : RowCounts) (i j : ℕ) → counts.start_row ≤ i → i < length counts.ones → counts.start_row ≤ j → j < length counts.ones
    → KeepsCounts (λ m n. SwapsRows m i j n) counts (record counts { ones = swap counts.ones i j })
rows_swapped counts i j from l from' l' m n is old swaps =
    let ones = counts.ones in
    let moved = swapped_from_swap ones (swap ones i j) i j 0 l l' refl in
    let long = length-swap ones i j in
    let row = λ (a b : ℕ) (same : (k : ℕ) → k < m.width → n.bit a k ≡ m.bit b k).
    ones_between-same (n.bit a) (m.bit b) counts.start_col counts.end_col (λ k o. same k (omega (arith, inside m counts is old.left))) in
    record {
      left = record { rows = omega (arith, old.left.rows, swaps.shape.height, long); columns = old.left.columns; before = omega (arith, old.left.before, swaps.shape.boundary) };
      counted = λ a b o. elim (cases_eq a i) [
        | inl e ↦ ap (λ k. get_or (swap ones i j) k 0) e ∙ moved.0 ∙ old.counted j from' l' ∙ sym (row i j swaps.first) ∙ ap (ones_in_range n counts) (sym e)
        | inr d ↦ elim (cases_eq a j) [
          | inl e ↦ ap (λ k. get_or (swap ones i j) k 0) e ∙ moved.1 ∙ old.counted i from l ∙ sym (row j i swaps.second) ∙ ap (ones_in_range n counts) (sym e)
          | inr d' ↦
              let below : a < length ones = omega (arith, long) in
              moved.2 a d d' ∙ old.counted a b below ∙ sym (row a a (λ k w. swaps.other_rows a k (omega (arith, old.left.rows)) w d d'))
        ]
      ];
    }

pub columns_kept : (counts : RowCounts) (i j : ℕ) → counts.start_col ≤ i → i < counts.end_col → counts.start_col ≤ j → j < counts.end_col
    → KeepsCounts (λ m n. SwapsColumns m i j counts.start_row n) counts counts
columns_kept counts i j from l from' l' m n is old swaps = record {
  left = left_kept m n counts swaps.shape old.left;
  counted = λ a b o. old.counted a b o ∙ sym (ones_between-swapped (m.bit a) (n.bit a) counts.start_col counts.end_col m.width i j from l from' l' (inside m counts is old.left) (swaps.below a b (omega (arith, old.left.rows))));
}

pub row_counted : (counts : RowCounts) (row count : ℕ) (new : BitTable) → row < length counts.ones → count ≡ ones_in_range new counts row
    → KeepsCounts (λ m n. ChangesRow row m n × (n ≡ new)) counts (record counts { ones = set counts.ones row count })
row_counted counts row count new below counted m n is old change =
    let ones = counts.ones in
    let long = length-set ones row count in
    record {
      left = record { rows = omega (arith, old.left.rows, change.0.shape.height, long); columns = old.left.columns; before = omega (arith, old.left.before, change.0.shape.boundary) };
      counted = λ i from l. elim (cases_eq i row) [
        | inl e ↦ ap (λ k. get_or (set ones row count) k 0) e ∙ get_or-set_same ones row count 0 below ∙ counted ∙ ap (λ (t : BitTable). ones_in_range t counts row) (sym change.1) ∙ ap (ones_in_range n counts) (sym e)
        | inr d ↦
            let inner : i < length ones = omega (arith, long) in
            get_or-set_other ones row i count 0 d
            ∙ old.counted i from inner
            ∙ ones_between-same (m.bit i) (n.bit i) counts.start_col counts.end_col (λ k o. sym (change.0.other_rows i k (omega (arith, old.left.rows)) (omega (arith, inside m counts is old.left)) d))
      ];
    }

-- what is least of some counts is least of others that are the same
pub least_same : (f g : ℕ → ℕ) (start row end : ℕ) (found : ℕ × ℕ) → row ≡ end → ((i : ℕ) → start ≤ i → i < end → f i ≡ g i) → HasLeastOnes f start row found → HasLeastOnes g start end found
least_same f g start row end found all same is =
    let below : found.0 < end = omega (arith, is.below) in
    record {
      from = is.from;
      below = below;
      count = sym (same found.0 is.from below) ∙ is.count;
      some = is.some;
      least = λ i from l some.
          let here = same i from l in
          let least = is.least i from (omega arith) (omega (arith, some)) in
          omega arith;
    }
