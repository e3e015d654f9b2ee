-- What the check leaves to show of `sparse_matrix::SparseBinaryMatrix::clone`.
use Rattle.std.proofs.Common.{◌≡◌, ◌<◌, ◌≤◌, ◌^◌, ℕ, List, All, Some, length, refl, sym, ap, subst, ◌∙◌}
use Rattle.std.proofs.lemmas.List.Elements.{same_from_all_zip}
use Rattle.rq_matrix.specs.DenseTails.{Tail}
use Rattle.rq_matrix.specs.Orders.{Order, IsPlacedOrder}
use Rattle.rq_matrix.specs.SparseRows.{IsSparseRow, IsColumnIndex}
use Rattle.rq_matrix.proofs.sparse_matrix.SparseBinaryMatrixClone.clone.Goals as goal
use Rattle.rq_matrix.proofs.sparse_matrix.SparseBinaryMatrixClone.clone.Goals.{In_ok-clone-4, in-Some+in_ok-clone-in-Some, in-None}

module _ (c : In_ok-clone-4) where
  index : c.match-self.index ≡ c.args.self.now.index
  index = elim c.match-self.branch [ in-Some+in_ok-clone-in-Some w ↦ w.index-is ∙ ap Some w.in_ok-clone-in-Some.ensures.cases ∙ sym w.in-Some.is | in-None w ↦ w.index-is ∙ sym w.in-None.is ]

  rows : c.in_ok-clone.field-0.items ≡ c.args.self.now.rows.items
  rows = same_from_all_zip (λ (x y : List ℕ). y ≡ x) c.args.self.now.rows.items c.in_ok-clone.field-0.items c.in_ok-clone.ensures.cases.0 (λ x y same. same)

pub invariant_of-result : goal.invariant_of-result
invariant_of-result c =
    let old = c.args.self.now in
    let same = sym (rows c) in
    let tail = c.in_ok-clone-2.ensures.cases in
    let row_order = c.in_ok-clone-3.ensures.cases in
    let columns = sym c.in_ok-clone-4.ensures.cases in
    record {
      rows_fit = subst (λ (l : List (List ℕ)). length l < 2 ^ 31) same old.rows_fit;
      columns_fit = subst (λ (o : Order). length o.order < 65536) columns old.columns_fit;
      height_within = subst (λ (l : List (List ℕ)). old.height ≤ length l) same old.height_within;
      width_within = subst (λ (o : Order). old.width ≤ length o.order) columns old.width_within;
      boundary_within = old.boundary_within;
      ordered = ap (λ (o : Order). length o.order) row_order ∙ old.ordered ∙ ap length same;
      rows_in_order = subst IsPlacedOrder (sym row_order) old.rows_in_order;
      columns_in_order = subst IsPlacedOrder columns old.columns_in_order;
      sparse = subst (λ (l : List (List ℕ)). All (IsSparseRow (length c.in_ok-clone-4.field-0.order)) l) same (subst (λ (o : Order). All (IsSparseRow (length o.order)) old.rows.items) columns old.sparse);
      tail_rows = ap (λ (t : Tail). t.rows) tail ∙ old.tail_rows ∙ ap length same;
      tail_columns = ap (λ (t : Tail). t.columns) tail ∙ old.tail_columns;
      index_is = λ lists is. subst (λ (l : List (List ℕ)). IsColumnIndex (length c.in_ok-clone-4.field-0.order) l lists) same (subst (λ (o : Order). IsColumnIndex (length o.order) old.rows.items lists) columns (old.index_is lists (sym (index c) ∙ is)));
    }

pub returns : goal.returns
returns c =
    let at = (goal.at.returns c).In_ok-clone-4 in
    record {
      cases = record {
        height = refl;
        width = refl;
        boundary = refl;
        rows = rows at;
        tail = c.in_ok-clone-2.ensures.cases;
        row_order = c.in_ok-clone-3.ensures.cases;
        column_order = c.in_ok-clone-4.ensures.cases;
        index = index at;
      };
    }
