-- What the check leaves to show of `sparse_matrix::SparseBinaryMatrix::add_assign_rows`.
use Rattle.std.proofs.Common.{◌≡◌, ◌<◌, ◌≤◌, ℕ, List, [], false, All, Result, OnOk, OnErr, length, set, get_or, refl, sym, ap, subst, ◌∙◌, arith, inl, inr, length-set}
use Rattle.std.specs.List.Sorted.{IsStrictlyIncreasing}
use Rattle.std.specs.Option.{is_some}
use Rattle.std.specs.Vec.{with_items}
use Rattle.std.proofs.lemmas.List.{with_items_is}
use Rattle.rq_matrix.proofs.OrderLaws.{order_apart}
use Rattle.rq_standard.specs.BitTableSteps.{AddsRowFrom}
use Rattle.rq_parts.specs.SparseBinaryVec.{IsListedSum}
use Rattle.rq_matrix.specs.declared.sparse_matrix.SparseBinaryMatrix.{SparseBinaryMatrix}
use Rattle.rq_matrix.specs.DenseTails.{Tail}
use Rattle.rq_matrix.specs.SparseBinaryMatrix.{sparse_content}
use Rattle.rq_matrix.specs.SparseRows.{IsSparseRow}
use Rattle.rq_matrix.proofs.SparseRowLaws.{rows_added}
use Rattle.rq_matrix.proofs.SparseMatrixLaws.{adds_whole, table}
use Rattle.rq_matrix.proofs.StoredRows.{IsMatrixOf, with_rows}
use Rattle.rq_matrix.proofs.sparse_matrix.SparseBinaryMatrixBinaryMatrix.add_assign_rows.Goals as goal

pub add_row-requires-clause-two : goal.add_row-requires-clause-two
add_row-requires-clause-two c =
    let old = c.args.self.now in
    let tall : old.height ≤ length old.row_order.order = omega (arith, old.ordered, old.height_within) in
    let apart = order_apart old.row_order c.args.dest c.args.src old.rows_in_order (omega (arith, c.requires.dest)) (omega (arith, c.requires.src)) c.requires.two in
    λ same. apart (sym c.stored_row-dest.ensures.value ∙ same ∙ c.stored_row-src.ensures.value)

-- a matrix in which a row was added to another one, or was to be
module _ {E : Type 0} (m : SparseBinaryMatrix) (given new : List (List ℕ)) (dest src : ℕ) (result : Result (Unit {0}) E) (value : given ≡ m.rows.items) (in_dest : dest < length m.rows.items) (in_src : src < length m.rows.items) (others : new ≡ set given dest (get_or new dest []))
    (sum : OnOk result (IsListedSum (get_or given dest []) (get_or given src []) (get_or new dest []))) (refused : OnErr result (new ≡ given)) (rises : IsStrictlyIncreasing (get_or new dest [])) (count : length new ≡ m.rows.len) (off : is_some m.index ≡ false)
  where
    with_sum : (tail : Tail) → tail.rows ≡ m.tail.rows → tail.columns ≡ m.tail.columns → IsMatrixOf m.height m.width m.boundary (with_items m.rows new).items tail m.row_order m.column_order m.index
    with_sum tail same_rows same_columns =
        let columns = length m.column_order.order in
        let few = ap length value in
        let is = with_items_is m.rows new count in
        let sparse = rows_added columns given new dest src result (subst (All (IsSparseRow columns)) (sym value) m.sparse) (omega (arith, few, in_dest)) (omega (arith, few, in_src)) others sum refused rises in
        let long = sym (ap length is ∙ ap length others ∙ length-set given dest (get_or new dest []) ∙ few) in
        with_rows m (with_items m.rows new).items tail off long (subst (All (IsSparseRow columns)) (sym is) sparse) same_rows same_columns

pub invariant_of-self-in-Break-1 : goal.invariant_of-self-in-Break-1
invariant_of-self-in-Break-1 c =
    with_sum c.args.self.now c.as_mut_slice.result.now c.add_row.new.rows c.stored_row-dest.result c.stored_row-src.result c.add_row.result c.as_mut_slice.ensures.value c.stored_row-dest.ensures.below c.stored_row-src.ensures.below c.add_row.ensures.others c.add_row.ensures.sum c.add_row.ensures.refused c.add_row.ensures.increasing
    (c.add_row.auto.rows ∙ c.as_mut_slice.ensures.len) (elim c.requires.start [ inl at ↦ absurd (c.if-start_col-self.false at) | inr off ↦ off.1 ]) c.args.self.now.tail refl refl

pub invariant_of-self-2 : goal.invariant_of-self-2
invariant_of-self-2 c =
    with_sum c.args.self.now c.as_mut_slice.result.now c.add_row.new.rows c.stored_row-dest.result c.stored_row-src.result c.add_row.result c.as_mut_slice.ensures.value c.stored_row-dest.ensures.below c.stored_row-src.ensures.below c.add_row.ensures.others c.add_row.ensures.sum c.add_row.ensures.refused c.add_row.ensures.increasing
    (c.add_row.auto.rows ∙ c.as_mut_slice.ensures.len) (elim c.requires.start [ inl at ↦ absurd (c.if-start_col-self.false at) | inr off ↦ off.1 ]) c.add-2.new.self c.add-2.ensures.rows c.add-2.ensures.columns

pub returns-clause-ok : goal.returns-clause-ok
returns-clause-ok c =
    let old = c.args.self.now in
    let dest = c.stored_row-dest.result in
    let src = c.stored_row-src.result in
    let new = c.add_row.new.rows in
    let row = get_or new dest [] in
    let value = c.as_mut_slice.ensures.value in
    let is = with_items_is old.rows new (c.add_row.auto.rows ∙ c.as_mut_slice.ensures.len) ∙ c.add_row.ensures.others ∙ ap (λ (l : List (List ℕ)). set l dest row) value in
    let sums = subst (λ (l : List (List ℕ)). IsListedSum (get_or l dest []) (get_or l src []) row) value c.in_ok-add_row.ensures.sum in
    let whole = adds_whole old.height old.width old.boundary (is_some old.index) old.rows.items old.row_order old.column_order old.tail c.add-2.new.self c.args.dest c.args.src dest src old.rows_in_order (omega (arith, old.ordered, old.height_within)) c.requires.dest
    c.stored_row-dest.ensures.value c.stored_row-src.ensures.value old.boundary_within old.tail_columns c.add-2.ensures (with_items old.rows new).items row c.stored_row-dest.ensures.below is sums in
    elim c.requires.start [
      | inl at ↦ absurd (c.if-start_col-self.false at)
      | inr first ↦ subst (λ n. AddsRowFrom (sparse_content old) c.args.dest c.args.src n (table old.height old.width old.boundary (is_some old.index) (with_items old.rows new).items old.row_order old.column_order c.add-2.new.self)) (sym first.0) whole
    ]
