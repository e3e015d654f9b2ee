-- The rows that have no pivot, and all rows, those of the pivots first.
use Rattle.std.proofs.Common.{◌≡◌, ◌≢◌, ℕ, ◌+◌, ◌-◌, ◌<◌, ◌≤◌, Bool, true, false, List, [], ◌∷◌, ◌++◌, Contains, length, refl, sym, ap, ◌∙◌, subst, arith, inl, inr, slice_index_or, length-append}
use Rattle.std.proofs.lemmas.Bool.{both_ways, cases_Bool, cases_eq, cases_lt}
use Rattle.std.proofs.lemmas.List.{get_or_append_left, get_or_push}
use Rattle.std.proofs.Math.Seq.{get_or-append_right}
use Rattle.std.proofs.lemmas.List.Elements.{Contains-append_left, Contains-push}
use Rattle.rq_algebra.specs.Arrangements.{ArePlaces}
use Rattle.rq_algebra.specs.Systems.{at}
use Rattle.rq_algebra.proofs.FewPlaces.{all_places, few_places}
use Rattle.rq_solver.specs.LeftRows.{row_in_turn, ListsRows, MarksRows}

-- ---- all rows

module _ (height : ℕ) (rows left : List ℕ) (rows_are : ArePlaces (length rows) height (at rows)) (listing : ListsRows height rows left) where
  all_long : length (rows ++ left) ≡ length rows + length left
  all_long = length-append rows left

  pub all_starts : (p : ℕ) → p < length rows → at (rows ++ left) p ≡ at rows p
  all_starts p l = get_or_append_left rows left 0 p l

  pub all_are : ArePlaces (length (rows ++ left)) height (at (rows ++ left))
  all_are = record {
    below = λ i l. elim (cases_lt i (length rows)) [
      | inl early ↦ rw (all_starts i early) (rows_are.below i early)
      | inr late ↦ rw (get_or-append_right rows left i 0 late) (listing.are.below (i - length rows) (omega (arith, all_long, l, late)))
    ];
    apart = λ i j l m e. elim (cases_lt i (length rows)) [
      | inl early ↦ elim (cases_lt j (length rows)) [
        | inl first ↦ rows_are.apart i j early first (rw (all_starts i early, all_starts j first) at e)
        | inr late ↦ absurd (listing.apart i (j - length rows) early (omega (arith, all_long, m, late)) (rw (all_starts i early, get_or-append_right rows left j 0 late) at e))
      ]
      | inr late ↦ elim (cases_lt j (length rows)) [
        | inl early ↦ absurd (listing.apart j (i - length rows) early (omega (arith, all_long, l, late)) (sym (rw (get_or-append_right rows left i 0 late, all_starts j early) at e)))
        | inr from ↦
            let same = listing.are.apart (i - length rows) (j - length rows) (omega (arith, all_long, l, late)) (omega (arith, all_long, m, from))
            (rw (get_or-append_right rows left i 0 late, get_or-append_right rows left j 0 from) at e) in
            omega (arith, same, late, from)
      ]
    ];
  }

  pub all_few : length rows + length left ≤ height
  all_few = let few = few_places (length (rows ++ left)) height (at (rows ++ left)) all_are in omega (arith, all_long, few)

-- ---- those that are left, turn by turn

-- of the rows in the first turns those without a mark are listed
pub record ListsTurns (height : ℕ) (of : ℕ → ℕ) (marks : List Bool) (turn : ℕ) (left : List ℕ) : Type 0 where
  pub are : ArePlaces (length left) height (at left)
  pub unmarked : (f : ℕ) → f < length left → slice_index_or marks (at left f) false ≡ false
  pub early : (f : ℕ) → f < length left → (q : ℕ) × (q < turn) × (of q ≡ at left f)
  pub every : (q : ℕ) → q < turn → slice_index_or marks (of q) false ≡ false → Contains left (of q)

module _ (height : ℕ) (of : ℕ → ℕ) (marks : List Bool) where
  pub turns_none : ListsTurns height of marks 0 []
  turns_none = record {
    are = record { below = λ i l. absurd (omega (arith, l)); apart = λ i j l m e. absurd (omega (arith, l)) };
    unmarked = λ f l. absurd (omega (arith, l));
    early = λ f l. absurd (omega (arith, l));
    every = λ q l. absurd (omega arith);
  }

  module _ (turn : ℕ) (left : List ℕ) (v : ListsTurns height of marks turn left) where
    pub turns_skipped : slice_index_or marks (of turn) false ≡ true → ListsTurns height of marks (turn + 1) left
    turns_skipped marked = record {
      are = v.are;
      unmarked = v.unmarked;
      early = λ f l. let q = v.early f l in (q.0, (let soon = q.1 in omega arith), q.2);
      every = λ q l none. elim (cases_eq q turn) [
        | inl e ↦ absurd (both_ways (slice_index_or marks (of turn) false) (ap (λ (n : ℕ). slice_index_or marks (of n) false) (sym e) ∙ none) marked)
        | inr d ↦ v.every q (omega arith) none
      ];
    }

    abbrev next : List ℕ
    next = left ++ of turn ∷ []

    pub turns_more : of turn < height → ((q : ℕ) → q < turn → of q ≢ of turn) → slice_index_or marks (of turn) false ≡ false
        → ListsTurns height of marks (turn + 1) next
    turns_more below other none =
        let fresh : (f : ℕ) → f < length left → at left f ≢ of turn = λ f l e. let q = v.early f l in other q.0 q.1 (q.2 ∙ e) in
        let long : length next ≡ length left + 1 = length-append left (of turn ∷ []) in
        let same : (f : ℕ) → f < length left → at next f ≡ at left f = λ f l. get_or_append_left left (of turn ∷ []) 0 f l in
        let last : at next (length left) ≡ of turn = get_or_push left (of turn) 0 (length left) refl in
        record {
          are = record {
            below = λ i l. grind (arith, long, same, last, v.are.below, below);
            apart = λ i j l m s. grind (arith, long, same, last, v.are.apart, fresh);
          };
          unmarked = λ f l. grind (arith, long, same, last, v.unmarked, none);
          early = λ f l. elim (cases_eq f (length left)) [
            | inl e ↦ (turn, (omega arith), sym (ap (at next) e ∙ last))
            | inr d ↦ let n : f < length left = omega (arith, long) in let q = v.early f n in (q.0, (let soon = q.1 in omega arith), q.2 ∙ sym (same f n))
          ];
          every = λ q l free. elim (cases_eq q turn) [
            | inl e ↦ rw e (Contains-push left (of turn))
            | inr d ↦ Contains-append_left left (of turn ∷ []) (of q) (v.every q (omega arith) free)
          ];
        }

-- each row below the height has one turn
module _ (height first count : ℕ) (within : first + count ≤ height) where
  abbrev of_turn : ℕ → ℕ
  of_turn = row_in_turn height first count

  pub turn_below : (q : ℕ) → q < height → of_turn q < height
  turn_below q l = grind (arith, l, within)

  pub turns_apart : (q t : ℕ) → q < t → t < height → of_turn q ≢ of_turn t
  turns_apart q t l m e = grind (arith, e, l, m, within)

  pub turn_of : (r : ℕ) → r < height → (q : ℕ) × (q < height) × (of_turn q ≡ r)
  turn_of r l = all_places height of_turn (record {
    below = turn_below;
    apart = λ i j m n e. elim (cases_lt i j) [
      | inl before ↦ absurd (turns_apart i j before n e)
      | inr from ↦ elim (cases_eq i j) [ inl same ↦ same | inr d ↦ absurd (turns_apart j i (omega arith) m (sym e)) ]
    ];
  }) r l

  -- at the end each row is a marked one, or is listed
  pub lists_rows : (rows left : List ℕ) (marks : List Bool) → MarksRows rows marks → ListsTurns height (row_in_turn height first count) marks height left → ListsRows height rows left
  lists_rows rows left marks marked v = record {
    are = v.are;
    apart = λ p f l m e. both_ways (slice_index_or marks (at left f) false) (v.unmarked f m) (ap (λ (r : ℕ). slice_index_or marks r false) (sym e) ∙ marked.marked p l);
    every = λ r l. elim (cases_Bool (slice_index_or marks r false)) [
      | inl has ↦ inl (marked.has r has)
      | inr none ↦ let q = turn_of r l in inr (subst (Contains left) q.2 (v.every q.0 q.1 (ap (λ (s : ℕ). slice_index_or marks s false) q.2 ∙ none)))
    ];
  }
