-- Pivots among rows of bits, while they are chosen.
use Rattle.std.proofs.Common.{◌≡◌, ℕ, ◌+◌, ◌<◌, ◌≤◌, ◌⊎◌, List, [], ◌∷◌, ◌++◌, All, length, take, get_or, refl, sym, ap, ◌∙◌, subst, arith, inl, inr}
use Rattle.std.specs.List.{Contains}
use Rattle.std.proofs.lemmas.Bool.{cases_lt}
use Rattle.std.proofs.lemmas.List.{length-append, get_or_push, get_or_default, take_more}
use Rattle.std.proofs.lemmas.List.Elements.{All-contains, Contains-append_cases, Contains-append_left, Contains-push}
use Rattle.std.proofs.Math.ListN.{get_or-append}
use Rattle.rq_algebra.specs.Systems.{at}
use Rattle.rq_peeling.specs.SystemRows.{AreRowsOfBits}
use Rattle.rq_matrix.specs.Orders.{IsOrderOf}
use Rattle.rq_peeling.specs.ColumnState.{ColumnState, EndsActive, EndsThese, HasNoActive, InactivatesRow, IsActive, TakesRow, first_columns}
use Rattle.rq_peeling.specs.Peeling.{IsPeeled}
use Rattle.rq_peeling.specs.RowOnes.{ones_of}
use Rattle.rq_peeling.specs.Chosen.{IsPeeledSo}

pub peeled_none : (lists : List (List ℕ)) (width lt_columns : ℕ) → IsPeeledSo lists [] (first_columns width lt_columns)
peeled_none lists width lt_columns = record {
  count = refl;
  in_rows = record { below = λ i l. absurd (omega arith); apart = λ i j l m e. absurd (omega arith) };
  own = λ p l. absurd (omega arith);
  later = λ p q l m is. absurd (omega arith);
  ended = λ p k l is active. absurd (omega arith);
}

module _ (lists : List (List ℕ)) (rows : List ℕ) (old new : ColumnState) (columns : All (λ row. All (λ column. column < length old.order) row) lists) (so : IsPeeledSo lists rows old) (row : ℕ) (in_row : row < length lists) (takes : TakesRow (ones_of lists row) old new) where
  one_more : length (rows ++ row ∷ []) ≡ length rows + 1
  one_more = length-append rows (row ∷ [])

  row_kept : (p : ℕ) → p < length rows → at (rows ++ row ∷ []) p ≡ at rows p
  row_kept p l = get_or-append rows (row ∷ []) 0 p l

  row_new : (p : ℕ) → length rows ≡ p → at (rows ++ row ∷ []) p ≡ row
  row_new p e = get_or_push rows row 0 p e

  column_kept : (p : ℕ) → p < length rows → at new.order p ≡ at old.order p
  column_kept p l = takes.ends.before p (omega (arith, so.count))

  -- the column of the new pivot is in none of the rows before
  apart_before : (p : ℕ) → p < length rows → Contains (ones_of lists (at rows p)) (at new.order old.pivots) → ⊥
  apart_before p l is = so.ended p (at new.order old.pivots) l is takes.was

  rows_apart : (i j : ℕ) → i < length rows + 1 → j < length rows + 1 → at (rows ++ row ∷ []) i ≡ at (rows ++ row ∷ []) j → i ≡ j
  rows_apart i j l m e =
      let other = λ (p : ℕ) (in_p : p < length rows) (same : at rows p ≡ row). apart_before p in_p (subst (λ (r : ℕ). Contains (ones_of lists r) (at new.order old.pivots)) (sym same) takes.own) in
      elim (cases_lt i (length rows)) [
        | inl first ↦
            elim (cases_lt j (length rows)) [
              | inl second ↦ so.in_rows.apart i j first second (sym (row_kept i first) ∙ e ∙ row_kept j second)
              | inr last ↦ absurd (other i first (sym (row_kept i first) ∙ e ∙ row_new j (omega arith)))
            ]
        | inr last ↦
            elim (cases_lt j (length rows)) [
              | inl second ↦ absurd (other j second (sym (row_kept j second) ∙ sym e ∙ row_new i (omega arith)))
              | inr too ↦ omega arith
            ]
      ]

  pub peeled_next : IsPeeledSo lists (rows ++ row ∷ []) new
  peeled_next = record {
    count = one_more ∙ ap (λ (n : ℕ). n + 1) so.count ∙ sym takes.pivots;
    in_rows = record {
      below = λ i l.
          elim (cases_lt i (length rows)) [
            | inl before ↦ rw (row_kept i before) (so.in_rows.below i before)
            | inr after ↦ rw (row_new i (omega (arith, one_more))) in_row
          ];
      apart = λ i j l m e. rows_apart i j (omega (arith, one_more)) (omega (arith, one_more)) e;
    };
    own = λ p l.
        elim (cases_lt p (length rows)) [
          | inl before ↦ rw (row_kept p before, column_kept p before) (so.own p before)
          | inr after ↦
              let here : length rows ≡ p = omega (arith, one_more) in
              rw (row_new p here, sym here, so.count) takes.own
        ];
    later = λ p q l m is.
        let before : p < length rows = omega (arith, one_more) in
        let in_old = subst (λ (r : ℕ). Contains (ones_of lists r) (at new.order q)) (row_kept p before) is in
        elim (cases_lt q (length rows)) [
          | inl second ↦ so.later p q l second (subst (Contains (ones_of lists (at rows p))) (column_kept q second) in_old)
          | inr after ↦
              let here : q ≡ old.pivots = omega (arith, one_more, so.count) in
              apart_before p before (subst (λ (j : ℕ). Contains (ones_of lists (at rows p)) (at new.order j)) here in_old)
        ];
    ended = λ p k l is active.
        elim (cases_lt p (length rows)) [
          | inl before ↦
              let in_old = subst (λ (r : ℕ). Contains (ones_of lists r) k) (row_kept p before) is in
              let below = All-contains (λ (c : ℕ). c < length old.order) (ones_of lists (at rows p)) k (columns (at rows p) [] (so.in_rows.below p before)) in_old in
              so.ended p k before in_old (takes.ends.left k below active).0
          | inr after ↦
              let in_new = subst (λ (r : ℕ). Contains (ones_of lists r) k) (row_new p (omega (arith, one_more))) is in
              let below = All-contains (λ (c : ℕ). c < length old.order) (ones_of lists row) k (columns row [] in_row) in_new in
              (takes.ends.left k below active).1 in_new
        ];
  }

-- when no more rows are taken
pub peeled_all : (lists : List (List ℕ)) (rows : List ℕ) (state : ColumnState) (width : ℕ) → IsPeeledSo lists rows state → state.pivots ≤ width → IsOrderOf width state.order state.places → IsPeeled width lists (record { rows = rows; order = state.order; places = state.places })
peeled_all lists rows state width so few columns = record {
  few = omega (arith, so.count);
  in_rows = so.in_rows;
  columns = columns;
  own = so.own;
  later = so.later;
}

-- the columns of a matrix's rows are below its width
pub columns_below : (width : ℕ) (lists : List (List ℕ)) → AreRowsOfBits width lists → All (λ row. All (λ column. column < width) row) lists
columns_below width lists bits i d l = let same : get_or lists i d ≡ ones_of lists i = get_or_default lists i d [] l in rw same (bits.within i l)

-- ---- columns that aren't active any more

-- some of them first, and then the others
ends_more : (first second both : ℕ → Type 0) (old cur new : ColumnState) → ((k : ℕ) → first k → both k) → ((k : ℕ) → second k → both k) → ((k : ℕ) → both k → (first k → ⊥) → (second k → ⊥) → ⊥) → old.pivots ≤ cur.pivots
    → EndsThese first old cur → EndsThese second cur new → EndsThese both old new
ends_more first second both old cur new in_first in_second no_other rises ends more = record {
  width = more.width ∙ ends.width;
  before = λ p l. more.before p (omega arith) ∙ ends.before p l;
  left = λ k l active.
      let still = more.left k (rw ends.width l) active in
      let was = ends.left k l still.0 in
      (was.0, (λ is. no_other k is was.1 still.1));
  kept = λ k l active out. more.kept k (rw ends.width l) (ends.kept k l active (λ is. out (in_first k is))) (λ is. out (in_second k is));
  fewer = omega (arith, ends.fewer, more.fewer);
}

pub inactivates_none : (row : List ℕ) (state : ColumnState) → HasNoActive row state → InactivatesRow row state state
inactivates_none row state none = record {
  pivots = refl;
  ends = record { width = refl; before = λ p l. refl; left = λ k l active. (active, (λ is. none k is active)); kept = λ k l active out. active; fewer = omega arith };
}

-- a row's pivot, and then all its columns
pub takes_row : (row : List ℕ) (column : ℕ) (old cur new : ColumnState) → Contains row column → IsActive old column → cur.pivots ≡ old.pivots + 1 → at cur.order old.pivots ≡ column → EndsActive column old cur → InactivatesRow row cur new → TakesRow row old new
takes_row row column old cur new there active next here ends others =
    let same : column ≡ at new.order old.pivots = sym (others.ends.before old.pivots (omega (arith, next)) ∙ here) in
    record {
      pivots = others.pivots ∙ next;
      own = subst (Contains row) same there;
      was = subst (IsActive old) same active;
      ends = ends_more (λ k. k ≡ column) (Contains row) (Contains row) old cur new (λ k e. subst (Contains row) (sym e) there) (λ k is. is) (λ k is apart out. out is) (omega (arith, next)) ends others.ends;
    }

module _ (row : List ℕ) (t : ℕ) (in_row : t < length row) where
  one_column_more : take (t + 1) row ≡ take t row ++ at row t ∷ []
  one_column_more = take_more row t 0 in_row

  pub still_there : (k : ℕ) → Contains (take t row) k → Contains (take (t + 1) row) k
  still_there k is = subst (λ (xs : List ℕ). Contains xs k) (sym one_column_more) (Contains-append_left (take t row) (at row t ∷ []) k is)

  pub now_there : Contains (take (t + 1) row) (at row t)
  now_there = subst (λ (xs : List ℕ). Contains xs (at row t)) (sym one_column_more) (Contains-push (take t row) (at row t))

  -- a column that is there is the last, or was there before
  was_there : (k : ℕ) → Contains (take (t + 1) row) k → Contains (take t row) k ⊎ (at row t ≡ k)
  was_there k is =
      elim (Contains-append_cases (take t row) (at row t ∷ []) k (subst (λ (xs : List ℕ). Contains xs k) one_column_more is)) [
        | inl before ↦ inl before
        | inr last ↦ let first : last.0 ≡ 0 = omega (arith, last.1) in inr (ap (λ (i : ℕ). get_or (at row t ∷ []) i k) (sym first) ∙ last.2)
      ]

  module _ (old cur new : ColumnState) (so : InactivatesRow (take t row) old cur) where
    -- one column more isn't active any more
    pub inactivates_more : EndsActive (at row t) cur new → new.pivots ≡ cur.pivots → InactivatesRow (take (t + 1) row) old new
    inactivates_more ends pivots = record {
      pivots = pivots ∙ so.pivots;
      ends = ends_more (Contains (take t row)) (λ k. k ≡ at row t) (Contains (take (t + 1) row)) old cur new still_there (λ k e. subst (Contains (take (t + 1) row)) (sym e) now_there)
          (λ k is before last. elim (was_there k is) [ inl there ↦ before there | inr here ↦ last (sym here) ]) (omega (arith, so.pivots)) so.ends ends;
    }

    -- the next column wasn't active
    pub inactivates_same : (IsActive cur (at row t) → ⊥) → InactivatesRow (take (t + 1) row) old cur
    inactivates_same none = record {
      pivots = so.pivots;
      ends = record {
        width = so.ends.width;
        before = so.ends.before;
        left = λ k l active.
            let was = so.ends.left k l active in
            (was.0, (λ is. elim (was_there k is) [ inl before ↦ was.1 before | inr here ↦ none (subst (IsActive cur) (sym here) active) ]));
        kept = λ k l active out. so.ends.kept k l active (λ is. out (still_there k is));
        fewer = so.ends.fewer;
      };
    }
