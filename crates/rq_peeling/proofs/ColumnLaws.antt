-- Columns in an order of which two are exchanged, and what becomes of the active ones.
use Rattle.std.proofs.Common.{◌≡◌, ◌≢◌, ℕ, ◌+◌, ◌-◌, ◌<◌, ◌≤◌, List, length, set, refl, sym, ap, ◌∙◌, subst, arith, inl, inr}
use Rattle.std.proofs.lemmas.Bool.{cases_eq}
use Rattle.std.proofs.lemmas.List.{length-set}
use Rattle.std.proofs.lemmas.List.FromFn.{length-range_with_len}
use Rattle.rq_algebra.specs.Systems.{at}
use Rattle.rq_algebra.proofs.Places.{exchange_left, exchange_right, exchange_other}
use Rattle.rq_matrix.proofs.OrderLaws.{first_is_order, order_exchanged, places_exchanged, order_kept}
use Rattle.rq_peeling.specs.ColumnState.{ColumnState, IsColumnState, IsActive, first_columns, ExchangesColumns, EndsActive}

-- ---- an exchange

module _ (old : ColumnState) (state : IsColumnState old) (p q first second : ℕ) (in_p : p < length old.order) (in_q : q < length old.order) (is_first : first ≡ at old.order p) (is_second : second ≡ at old.order q) where
  same_length : length (set (set old.order p second) q first) ≡ length old.order
  same_length = length-set (set old.order p second) q first ∙ length-set old.order p second

  pub exchanged_state : IsColumnState (record old { order = set (set old.order p second) q first; places = set (set old.places first q) second p })
  exchanged_state = record {
    columns = rw (same_length, is_first, is_second) (order_kept (length old.order) old.order old.places state.columns p q in_p in_q);
    few = state.few;
    within = rw same_length state.within;
  }

  pub exchanges : ExchangesColumns p q old (record old { order = set (set old.order p second) q first; places = set (set old.places first q) second p })
  exchanges = record {
    width = same_length;
    order = λ j l. rw (is_first, is_second) (order_exchanged (length old.order) old.order old.places state.columns p q in_p in_q j);
    places = rw (is_first, is_second) (places_exchanged (length old.order) old.order old.places state.columns p q in_p in_q);
    pivots = refl;
    end = refl;
  }

-- ---- a column that isn't active any more

module _ (column place other : ℕ) (old mid new : ColumnState) (state : IsColumnState old) (inside : column < length old.order) (active : IsActive old column) (here : at old.places column ≡ place) (ex : ExchangesColumns place other old mid) (few : old.pivots ≤ other) (below : other < old.end) where
  place_apart : (k : ℕ) → at old.places k ≢ place → k ≢ column
  place_apart k d e = d (ap (at old.places) e ∙ here)

  before_kept : (p : ℕ) → p < old.pivots → at mid.order p ≡ at old.order p
  before_kept p l =
      let from = active.from in
      ex.order p (omega (arith, state.within)) ∙ ap (at old.order) (exchange_other place other p (λ e. omega (arith, e, here, from)) (λ e. omega (arith, e)))

  -- the others that were active are where they were, but for the one that took the column's place
  left_of : (k : ℕ) → k < length old.order → at mid.places k ≢ other → old.pivots ≤ at mid.places k → at mid.places k < old.end → IsActive old k × (k ≢ column)
  left_of k l d from under =
      elim (cases_eq (at old.places k) place) [
        | inl e ↦ absurd (d (ex.places k l ∙ exchange_left place other (at old.places k) e))
        | inr f ↦
            elim (cases_eq (at old.places k) other) [
              | inl e ↦ (record { from = omega (arith, e); below = omega (arith, e) }, place_apart k f)
              | inr g ↦
                  let same = ex.places k l ∙ exchange_other place other (at old.places k) f g in
                  (record { from = rw (sym same) from; below = rw (sym same) under }, place_apart k f)
            ]
      ]

  -- another column stands elsewhere
  place_other : (k : ℕ) → k < length old.order → k ≢ column → at old.places k ≢ place
  place_other k l d e = d (sym (state.columns.placed k l).1 ∙ ap (at old.order) (e ∙ sym here) ∙ (state.columns.placed column inside).1)

  -- and where it was active, it stands at an active place that isn't given up
  stays : (k : ℕ) → k < length old.order → IsActive old k → k ≢ column → (at mid.places k ≢ other) × (old.pivots ≤ at mid.places k) × (at mid.places k < old.end)
  stays k l was d =
      let apart = place_other k l d in
      let first = active.from in
      let last = active.below in
      elim (cases_eq (at old.places k) other) [
        | inl e ↦
            let moved : at mid.places k ≡ place = ex.places k l ∙ exchange_right place other (at old.places k) e in
            ((λ f. apart (e ∙ sym f ∙ moved)), omega (arith, moved, here, first), omega (arith, moved, here, last))
        | inr f ↦
            let same : at mid.places k ≡ at old.places k = ex.places k l ∙ exchange_other place other (at old.places k) apart f in
            ((λ g. f (sym same ∙ g)), rw same was.from, rw same was.below)
      ]

  -- the active places are fewer by that one
  ends : (pivots end : ℕ) → ((x : ℕ) → pivots ≤ x → x < end → (x ≢ other) × (old.pivots ≤ x) × (x < old.end)) → ((x : ℕ) → x ≢ other → old.pivots ≤ x → x < old.end → (pivots ≤ x) × (x < end)) → end ≤ old.end → new ≡ record mid { pivots = pivots; end = end } → EndsActive column old new
  ends pivots end inner outer fewer is = rw is (record {
    width = ex.width;
    before = before_kept;
    left = λ k l still. let i = inner (at mid.places k) still.from still.below in left_of k l i.0 i.1 i.2;
    kept = λ k l was d. let s = stays k l was d in let o = outer (at mid.places k) s.0 s.1 s.2 in record { from = o.0; below = o.1 };
    fewer = fewer;
  })

  -- the column goes behind the pivots
  pub ends_by_pivot : old.pivots ≡ other → new ≡ record mid { pivots = mid.pivots + 1 } → EndsActive column old new
  ends_by_pivot next = ends (mid.pivots + 1) mid.end (λ x from under. (λ e. omega (arith, e, ex.pivots), omega (arith, ex.pivots), omega (arith, ex.end))) (λ x d from under. (omega (arith, d, ex.pivots), omega (arith, ex.end))) (omega (arith, ex.end))

  -- the column goes before the inactive ones
  pub ends_by_inactivation : old.end ≡ other + 1 → new ≡ record mid { end = mid.end - 1 } → EndsActive column old new
  ends_by_inactivation next = ends mid.pivots (mid.end - 1) (λ x from under. (λ e. omega (arith, e, ex.end), omega (arith, ex.pivots), omega (arith, ex.end))) (λ x d from under. (omega (arith, ex.pivots), omega (arith, d, ex.end))) (omega (arith, ex.end))

-- ---- what was read of the columns that callers see

module _ (inside old : ColumnState) (same : inside ≡ old) (are : IsColumnState inside) where
  pub state_was : IsColumnState old
  state_was = subst IsColumnState same are

  pub place_was : (column place : ℕ) → column < length old.order → (column < length inside.places → place ≡ at inside.places column) → at old.places column ≡ place
  place_was column place l read =
      let places = ap (λ (s : ColumnState). s.places) same in
      sym (read (omega (arith, ap length places, l, state_was.columns.place_count)) ∙ ap (λ (xs : List ℕ). at xs column) places)

-- ---- columns in their own order

pub first_state : (width end : ℕ) → end ≤ width → IsColumnState (first_columns width end)
first_state width end l =
    let all = length-range_with_len 0 width in
    record { columns = first_is_order width; few = omega arith; within = rw all l }
