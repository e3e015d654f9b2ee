-- A row takes the rows of pivots, one by one, and so does one row after another.
use Rattle.std.proofs.Common.{◌≡◌, ◌≢◌, ℕ, ◌+◌, ◌<◌, ◌≤◌, ◌⊎◌, List, [], ◌∷◌, ◌++◌, Contains, length, take, refl, sym, ap, ◌∙◌, subst, arith, inl, inr, if◌then◌else◌, ◌==◌, lit<}
use Rattle.std.specs.List.{count_by, Contains}
use Rattle.std.proofs.lemmas.Bool.{cases_eq}
use Rattle.std.proofs.lemmas.List.{length-take-le}
use Rattle.std.proofs.lemmas.List.Elements.{All-nil, All-push}
use Rattle.std.proofs.lemmas.List.Sums.{sum_by-take-le}
use Rattle.rq_algebra.specs.Arrangements.{ArePlaces}
use Rattle.rq_algebra.specs.Operations.{Operation}
use Rattle.rq_algebra.specs.Systems.{at}
use Rattle.rq_algebra.proofs.Sums.{add_again, add_zero}
use Rattle.rq_standard.specs.OctetField.{octets}
use Rattle.rq_peeling.specs.SystemRows.{AreRowsOfBits, one_in}
use Rattle.rq_solver.specs.PivotAdditions.{HasAddedPivotRows, IsCleared, IsSumOf, TakesPivotsBy, PeelsRows}
use Rattle.rq_matrix.specs.Orders.{IsOrderOf}
use Rattle.rq_peeling.specs.Peeling.{IsPeeled, Pivots}
use Rattle.rq_peeling.specs.RowOnes.{ones_of}
use Rattle.rq_elimination.specs.RowSteps.{sum_step}
use Rattle.rq_elimination.specs.declared.recorded.RecordedRows.{RecordedRows}
use Rattle.rq_peeling.proofs.MatrixRows.{AreColumnsOfRow}
use Rattle.rq_peeling.proofs.Counting.{count_contains, count_next, count_skipped}
use Rattle.rq_algebra.proofs.Choices.{if_apart, if_either, if_same}
use Rattle.rq_peeling.proofs.PeelingLaws.{still_there, now_there}
use Rattle.rq_solver.proofs.OctetSums.{plus_zero_times}
use Rattle.rq_solver.proofs.StepsToRows.{HasAdded, InTurn, takes_more, takes_none, takes_one, takes_same, takes_sum}
use Rattle.rq_solver.proofs.Substitution.{sum_keeps}

pub columns_of_row : {width row : ℕ} {lists : List (List ℕ)} {columns : List ℕ} → AreRowsOfBits width lists → row < length lists → columns ≡ ones_of lists row
    → AreColumnsOfRow width columns
columns_of_row {width} {row} bits l is = subst (AreColumnsOfRow width) (sym is) (record { within = bits.within row l; once = λ k. bits.once row k l })

-- ---- sums of octets

pub plus_one : (x y c : ℕ) → y ≡ 1 → c ≡ 0 → octets.add (octets.add x c) (octets.mul 1 y) ≡ octets.add x 1
plus_one x y c e z = ap (λ (w : ℕ). octets.add (octets.add x c) (octets.mul 1 w)) e ∙ ap (octets.add (octets.add x c)) (octets.one_mul 1 (lit< tt)) ∙ ap (λ (w : ℕ). octets.add (octets.add x w) 1) z ∙ ap (λ (w : ℕ). octets.add w 1) (add_zero octets x)

-- what a cleared row has there is an octet
pub cleared_small : {rows order : List ℕ} {m : ℕ → ℕ → ℕ} {r i : ℕ} → IsCleared rows order m r → i < length rows → m r (at order i) < 256
cleared_small {rows} {order} {m} {r} {i} cleared l = elim (cases_eq (at rows i) r) [
  | inl e ↦ let is = cleared.entries i l ∙ if_same (at rows i) r 1 0 e in omega (arith, is)
  | inr d ↦ let is = cleared.entries i l ∙ if_apart (at rows i) r 1 0 d in omega (arith, is)
]

-- ---- the pivots that a row takes

module _ (rows order : List ℕ) (row : ℕ) (columns : List ℕ) where
  -- how often a pivot of another row has its column among the first of these
  abbrev met_in : ℕ → ℕ → ℕ
  met_in t i = if at rows i == row then 0 else count_by (λ x. x == at order i) (take t columns)

  pub takes_no_pivots : {Done : List Operation → RecordedRows → RecordedRows → Type 0} {state : RecordedRows} → Done [] state state
      → TakesPivotsBy Done rows order row (take 0 columns) state state
  unfolding takes_none
  takes_no_pivots {Done} {state} done = record {
    takes = takes_none done (λ m. record {
      kept = λ k zeros. refl;
      taken = λ cleared i l.
          sym (ap (octets.add (m row (at order i))) (if_either (λ x. x ≡ 0) (at rows i) row 0 0 (λ e. refl) (λ d. refl)) ∙ add_zero octets _);
    });
    sums = All-nil (IsSumOf row (length state.table.rows));
    idle = λ e. refl;
  }

  module _ {places : List ℕ} {width : ℕ} (arranged : IsOrderOf width order places) (few : length rows ≤ width) {t : ℕ} (in_columns : t < length columns)
      (in_width : at columns t < width) {Done : List Operation → RecordedRows → RecordedRows → Type 0} {old cur : RecordedRows}
      (v : TakesPivotsBy Done rows order row (take t columns) old cur) where
    not_empty : take (t + 1) columns ≡ [] → ⊥
    not_empty e = let n = length-take-le (t + 1) columns (omega arith) in let z : length (take (t + 1) columns) ≡ 0 = ap length e in omega (arith, n, z)

    -- a column of a pivot stands at the pivot's place
    column_place : (i : ℕ) → i < length rows → at columns t ≡ at order i → at places (at columns t) ≡ i
    column_place i l e = ap (at places) e ∙ (arranged.ordered i (omega arith)).1

    -- the next column is counted for no other pivot
    count_kept : (i : ℕ) → (at rows i ≡ row) ⊎ (at columns t ≢ at order i)
        → met_in t i ≡ met_in (t + 1) i
    count_kept i why = elim why [
      | inl own ↦ if_same (at rows i) row 0 (count_by (λ x. x == at order i) (take t columns)) own ∙ sym (if_same (at rows i) row 0 (count_by (λ x. x == at order i) (take (t + 1) columns)) own)
      | inr other ↦ ap (λ (n : ℕ). if at rows i == row then 0 else n) (sym (count_skipped columns t (at order i) in_columns other))
    ]

    -- the column is inactive, or its pivot is the row's own
    pub takes_skipped : (length rows ≤ at places (at columns t)) ⊎ (at rows (at places (at columns t)) ≡ row) → TakesPivotsBy Done rows order row (take (t + 1) columns) old cur
    unfolding takes_same
    takes_skipped why = record {
      takes = takes_same v.takes (λ r e. e) (λ m now stays e. record {
        kept = λ k zeros. e.kept k (λ j n c d. zeros j n (still_there columns t in_columns (at order j) c) d);
        taken = λ done i l.
            e.taken (λ j n c d. done j n (still_there columns t in_columns (at order j) c) d) i l
            ∙ ap (octets.add (m row (at order i))) (count_kept i (elim (cases_eq (at rows i) row) [
              | inl f ↦ inl f
              | inr d ↦ inr (λ f. let place = column_place i l f in elim why [
                | inl inactive ↦ omega (arith, place, inactive, l)
                | inr own ↦ d (ap (at rows) (sym place) ∙ own)
              ])
            ]));
      });
      sums = v.sums;
      idle = λ e. absurd (not_empty e);
    }

    module _ (once : (k : ℕ) → k < width → count_by (λ x. x == k) columns ≤ 1) {bound : ℕ} (rows_are : ArePlaces (length rows) bound (at rows)) {j : ℕ}
        (place : at places (at columns t) ≡ j) (in_rows : j < length rows) (other : at rows j ≢ row) (height : length old.table.rows ≡ bound) where
      column_is : at columns t ≡ at order j
      column_is = sym (arranged.placed (at columns t) in_width).1 ∙ ap (at order) place

      module _ (m now : ℕ → ℕ → ℕ)
          (w : InTurn (λ r. r ≡ row) (λ r. r ≡ row) (HasAddedPivotRows rows order row (take t columns)) (HasAdded row (at rows j) 1) m now)
          (done : (q : ℕ) → q < length rows → Contains (take (t + 1) columns) (at order q) → at rows q ≢ row → IsCleared rows order m (at rows q)) where
        pivot_cleared : IsCleared rows order m (at rows j)
        pivot_cleared = done j in_rows (subst (Contains (take (t + 1) columns)) column_is (now_there columns t in_columns)) other

        pivot_now : (i : ℕ) → w.between (at rows j) (at order i) ≡ m (at rows j) (at order i)
        pivot_now i = w.stays (at rows j) (at order i) other

        small_now : (i : ℕ) → i < length rows → w.between (at rows j) (at order i) < 256
        small_now i l = rw (pivot_now i) (cleared_small pivot_cleared l)

        before_now : (i : ℕ) → i < length rows → w.between row (at order i) ≡ octets.add (m row (at order i)) (met_in t i)
        before_now i l = w.first.taken (λ q n c d. done q n (still_there columns t in_columns (at order q) c) d) i l

        -- the pivot's row has 0 in the column of another pivot
        unchanged : (i : ℕ) → i < length rows → at rows i ≢ at rows j → octets.add (w.between row (at order i)) (octets.mul 1 (w.between (at rows j) (at order i))) ≡ octets.add (m row (at order i)) (met_in t i)
        unchanged i l d = plus_zero_times (w.between row (at order i)) 1 (w.between (at rows j) (at order i)) (pivot_now i ∙ pivot_cleared.entries i l ∙ if_apart (at rows i) (at rows j) 1 0 d) ∙ before_now i l

        next_taken : (i : ℕ) → i < length rows → now row (at order i) ≡ octets.add (m row (at order i)) (met_in (t + 1) i)
        next_taken i l = w.second (at order i) (small_now i l) ∙ elim (cases_eq (at rows i) row) [
          | inl e ↦ unchanged i l (λ f. other (sym f ∙ e)) ∙ ap (octets.add (m row (at order i))) (count_kept i (inl e))
          | inr d ↦ elim (cases_eq i j) [
            | inr f ↦
                let apart : at rows i ≢ at rows j = (λ e. f (rows_are.apart i j l in_rows e)) in
                let skipped : at columns t ≢ at order i = (λ e. f (sym (column_place i l e) ∙ place)) in
                unchanged i l apart ∙ ap (octets.add (m row (at order i))) (count_kept i (inr skipped))
            | inl e ↦
                let counted = count_next columns t (at order i) in_columns (column_is ∙ ap (at order) (sym e)) in
                let most = sum_by-take-le (λ x. if x == at order i then 1 else 0) columns (t + 1) in
                let bounded = once (at order i) (arranged.ordered i (omega arith)).0 in
                let none : count_by (λ x. x == at order i) (take t columns) ≡ 0 = omega (arith, counted, most, bounded) in
                let now_one : count_by (λ x. x == at order i) (take (t + 1) columns) ≡ 1 = omega (arith, counted, none) in
                let own : w.between (at rows j) (at order i) ≡ 1 = pivot_now i ∙ pivot_cleared.entries i l ∙ if_same (at rows i) (at rows j) 1 0 (ap (at rows) e) in
                ap (λ (x : ℕ). octets.add x (octets.mul 1 (w.between (at rows j) (at order i)))) (before_now i l)
                ∙ plus_one (m row (at order i)) (w.between (at rows j) (at order i)) (met_in t i) own (if_apart (at rows i) row 0 (count_by (λ x. x == at order i) (take t columns)) d ∙ none)
                ∙ ap (octets.add (m row (at order i))) (sym (if_apart (at rows i) row 0 (count_by (λ x. x == at order i) (take (t + 1) columns)) d ∙ now_one))
          ]
        ]

      pub takes_more_pivots : {new : RecordedRows} → Done (sum_step row (at rows j) 1 ∷ []) cur new
          → (Done v.takes.steps old cur → Done (sum_step row (at rows j) 1 ∷ []) cur new → Done (v.takes.steps ++ sum_step row (at rows j) 1 ∷ []) old new)
          → TakesPivotsBy Done rows order row (take (t + 1) columns) old new
      unfolding takes_more takes_one takes_sum
      takes_more_pivots one more = record {
        takes = takes_more v.takes (takes_sum row (at rows j) 1 one) more (λ r e. e) (λ r e. e) (λ m now w. record {
          kept = λ k zeros.
              let listed = subst (Contains (take (t + 1) columns)) column_is (now_there columns t in_columns) in
              sum_keeps row (at rows j) 1 w.rest w.second row k (w.stays (at rows j) k other ∙ zeros j in_rows listed other)
              ∙ w.first.kept k (λ i n c d. zeros i n (still_there columns t in_columns (at order i) c) d);
          taken = next_taken m now w;
        });
        sums = All-push (IsSumOf row (length old.table.rows)) v.takes.steps (sum_step row (at rows j) 1) v.sums
            (record { source = at rows j; is = refl; within = rw height (rows_are.below j in_rows); other = other });
        idle = λ e. absurd (not_empty e);
      }

pub peels_rows : (width : ℕ) (lists : List (List ℕ)) (pivots : Pivots) → AreRowsOfBits width lists → IsPeeled width lists pivots → PeelsRows lists pivots
peels_rows width lists pivots bits peeled = record { bits = rw peeled.columns.place_count bits; peeled = rw peeled.columns.place_count peeled }

-- ---- a row has 1 in its own pivot's column, and takes the others

module _ {lists : List (List ℕ)} {rows order places : List ℕ} {width : ℕ} (bits : AreRowsOfBits width lists)
    (peeled : IsPeeled width lists (record { rows = rows; order = order; places = places })) {i : ℕ} (in_rows : i < length rows) where
  pub own_one : one_in lists (at rows i) (at order i) ≡ 1
  own_one =
      let some = count_contains (ones_of lists (at rows i)) (at order i) (peeled.own i in_rows) in
      let most = bits.once (at rows i) (at order i) (peeled.in_rows.below i in_rows) (peeled.columns.ordered i (omega (arith, peeled.few))).0 in
      omega (arith, some, most)

  module _ (r : ℕ) where
    -- what it takes makes its ones of what it has once it is cleared
    pub own_and_taken : octets.add (if at rows i == r then 1 else 0) (if at rows i == r then 0 else one_in lists r (at order i)) ≡ one_in lists r (at order i)
    own_and_taken = elim (cases_eq (at rows i) r) [
      | inl e ↦ rw (if_same (at rows i) r 1 0 e, if_same (at rows i) r 0 (one_in lists r (at order i)) e) (add_zero octets 1 ∙ sym own_one ∙ ap (λ (q : ℕ). one_in lists q (at order i)) e)
      | inr d ↦ rw (if_apart (at rows i) r 1 0 d, if_apart (at rows i) r 0 (one_in lists r (at order i)) d) (octets.zero_add (one_in lists r (at order i)))
    ]

    -- and the other way round
    pub own_is_left : octets.add (one_in lists r (at order i)) (if at rows i == r then 0 else one_in lists r (at order i)) ≡ (if at rows i == r then 1 else 0)
    own_is_left = ap (λ (x : ℕ). octets.add x (if at rows i == r then 0 else one_in lists r (at order i))) (sym own_and_taken) ∙ add_again octets (if at rows i == r then 1 else 0) (if at rows i == r then 0 else one_in lists r (at order i))
