-- The column from pivots in any rows and columns.
use Rattle.std.proofs.Common.{◌≡◌, ◌≢◌, ℕ, ◌<◌, List, [], ◌∷◌, ◌++◌, None, replicate, get_or, sym, ap, ◌∙◌, refl, arith, inl, inr}
use Rattle.std.proofs.lemmas.List.Elements.{All-from_get_or, All-get_or}
use Rattle.rq_algebra.specs.Field.{Field}
use Rattle.rq_algebra.specs.Systems.{dot, Solves, IsColumn, at}
use Rattle.rq_algebra.specs.Operations.{Operation, Reorder, Space, Store, step, run, plain, unordered, read, IsOrder, IsValues, IsUnread, LeavesZeros, found_by, FindsColumn}
use Rattle.rq_algebra.specs.PivotColumns.{HasPivots, ReadsPivots}
use Rattle.rq_algebra.specs.Following.{Follows}
use Rattle.rq_algebra.specs.OperationLaws.{HomogeneousColumnGoesBack}
use Rattle.rq_algebra.proofs.Sums.{dot_one, dot_zero, zero_mul}
use Rattle.rq_algebra.proofs.ChangeLaws.{find_place}
use Rattle.rq_algebra.proofs.FewPlaces.{all_places}
use Rattle.rq_algebra.proofs.Solutions.{solves_same}
use Rattle.rq_algebra.proofs.OperationRuns.{run_push, AreAllowed-push, zero_values}
use Rattle.rq_algebra.proofs.Placewise.{at-zeros, zeros_stay}

-- what is read after an order has been set
pub found-reorder : {X : Type 0} (S : Space X) (operations : List Operation) (order : List ℕ) (values : List X) (k : ℕ) → found_by S (operations ++ Reorder order ∷ []) values k ≡ get_or (run S operations (unordered values)).values (get_or order k 0) S.zero
unfolding step
found-reorder S operations order values k = ap (λ (t : Store _). read S t k) (run_push S operations (Reorder order) (unordered values))

-- nor does it change the values
values-reorder : {X : Type 0} (S : Space X) (operations : List Operation) (order : List ℕ) (values : List X) → (run S (operations ++ Reorder order ∷ []) (unordered values)).values ≡ (run S operations (unordered values)).values
unfolding step
values-reorder S operations order values = ap (λ (t : Store _). t.values) (run_push S operations (Reorder order) (unordered values))

module _ (F : Field) (height width : ℕ) (original a : ℕ → ℕ → ℕ) (operations : List Operation) (follows : Follows F height width original a operations) (rows columns : ℕ → ℕ) (pivots : HasPivots F height width a rows columns) (order : List ℕ) (reads : ReadsPivots width rows columns order) where
  pivot_says : (x : ℕ → ℕ) → IsColumn F width x → (p : ℕ) → p < width → dot F width (a (rows p)) x ≡ x (columns p)
  pivot_says x elements p l = cc (dot_one F width (a (rows p)) x (columns p) (pivots.in_columns.below p l) (λ k m d. pivots.zeros p k l m d), pivots.ones p l, F.one_mul (x (columns p)) (elements (columns p) (pivots.in_columns.below p l)))

  -- what is read for a column is the value of its pivot's row
  found_at : (v : List ℕ) → (p : ℕ) → p < width → found_by (plain F) (operations ++ Reorder order ∷ []) v (columns p) ≡ at (run (plain F) operations (unordered v)).values (rows p)
  found_at v p l = found-reorder (plain F) operations order v (columns p) ∙ ap (λ (i : ℕ). at (run (plain F) operations (unordered v)).values i) (reads.reads p l)

  is_order : IsOrder height order
  is_order = All-from_get_or (λ i. i < height) order 0 (λ k l.
      let q = all_places width columns pivots.in_columns k (omega (arith, reads.count)) in
      rw (← q.2, reads.reads q.0 q.1) (pivots.in_rows.below q.0 q.1))

  -- values that aren't read are those of rows that aren't pivots', which are zeros
  unread_is : (i : ℕ) → IsUnread height order i → (p : ℕ) → p < width → rows p ≢ i
  unread_is i unread p l e = All-get_or (λ k. k ≢ i) order (columns p) 0 (omega (arith, reads.count, pivots.in_columns.below p l)) unread.1 (reads.reads p l ∙ e)

  is_unread : (i : ℕ) → i < height → ((p : ℕ) → p < width → rows p ≢ i) → IsUnread height order i
  is_unread i l free = (
    l,
    All-from_get_or (λ k. k ≢ i) order 0 (λ k m e.
        let q = all_places width columns pivots.in_columns k (omega (arith, reads.count)) in
        free q.0 q.1 (sym (reads.reads q.0 q.1) ∙ ap (λ (j : ℕ). get_or order j 0) q.2 ∙ e)),
  )

  rest_says : (x : ℕ → ℕ) (i : ℕ) → i < height → ((p : ℕ) → p < width → rows p ≢ i) → dot F width (a i) x ≡ 0
  rest_says x i l free = dot_zero F width (a i) x (λ k m. cc (pivots.rest i k l free m, zero_mul F (x k)))

  left_at : (v : List ℕ) (i : ℕ) → at (run (plain F) (operations ++ Reorder order ∷ []) (unordered v)).values i ≡ at (run (plain F) operations (unordered v)).values i
  left_at v i = ap (λ (vs : List ℕ). at vs i) (values-reorder (plain F) operations order v)

  leaves_zeros : (v : List ℕ) → IsValues F height v → (x : ℕ → ℕ) → Solves F height width original x (at v) → LeavesZeros F height order (operations ++ Reorder order ∷ []) v
  leaves_zeros v e x s i unread = left_at v i ∙ sym (((follows.keeps v e).same.onward x s).at i unread.0) ∙ rest_says x i unread.0 (unread_is i unread)

  found_fits : (v : List ℕ) → IsValues F height v → LeavesZeros F height order (operations ++ Reorder order ∷ []) v
      → Solves F height width original (found_by (plain F) (operations ++ Reorder order ∷ []) v) (at v)
  found_fits v e zeros = (follows.keeps v e).same.back _ record {
    at = λ i l.
        let column : ℕ → ℕ = found_by (plain F) (operations ++ Reorder order ∷ []) v in
        let elements : IsColumn F width column = (λ (k : ℕ) (n : k < width).
        let q = all_places width columns pivots.in_columns k n in
        rw (← q.2, found_at v q.0 q.1) ((follows.keeps v e).values.elements (rows q.0) (pivots.in_rows.below q.0 q.1))) in
        elim (find_place width rows i) [
          | inl q ↦ rw (← q.2) (pivot_says column elements q.0 q.1 ∙ found_at v q.0 q.1)
          | inr free ↦ rest_says column i l free ∙ sym (zeros i (is_unread i l free)) ∙ left_at v i
        ];
  }

  pub finds_by_pivots : FindsColumn F height width original (operations ++ Reorder order ∷ [])
  finds_by_pivots = record {
    allowed = AreAllowed-push height None operations (Reorder order) follows.allowed is_order;
    order = order;
    before = operations;
    ends = refl;
    count = reads.count;
    only = λ v e x elements s k l.
        let q = all_places width columns pivots.in_columns k l in
        rw (← q.2) (sym (pivot_says x elements q.0 q.1) ∙ ((follows.keeps v e).same.onward x s).at (rows q.0) (pivots.in_rows.below q.0 q.1) ∙ sym (found_at v q.0 q.1));
    solves = λ square v e. found_fits v e (λ i unread.
        let q = all_places width rows (rw square at pivots.in_rows) i (rw square at unread.0) in
        absurd (unread_is i unread q.0 q.1 q.2));
    leaves = λ v e x elements. leaves_zeros v e x;
    consistent = found_fits;
  }

-- operations that follow rows take a column that solves these with zeros as values back to the original ones
pub zeros_back : (F : Field) (height width : ℕ) (original a : ℕ → ℕ → ℕ) (operations : List Operation) → Follows F height width original a operations → (x : ℕ → ℕ) → Solves F height width a x (λ _. 0) → Solves F height width original x (λ _. 0)
zeros_back F height width original a operations follows x solves =
    let zeros : List ℕ = replicate height 0 in
    solves_same F height width original original x (at zeros) (λ _. 0) (λ i k l m. refl) (λ i l. at-zeros height i)
    ((follows.keeps zeros (zero_values F height width)).same.back x
    (solves_same F height width a a x (λ _. 0) (at (run (plain F) operations (unordered zeros)).values) (λ i k l m. refl) (λ i l. sym (zeros_stay F operations (unordered zeros) (at-zeros height) i)) solves))

-- and so a homogeneous column
pub homogeneous_back : HomogeneousColumnGoesBack
homogeneous_back F height width original a operations follows n = record {
  column = n.column;
  is_column = n.is_column;
  index = n.index;
  in_width = n.in_width;
  nonzero = n.nonzero;
  solves = zeros_back F height width original a operations follows n.column n.solves;
}
