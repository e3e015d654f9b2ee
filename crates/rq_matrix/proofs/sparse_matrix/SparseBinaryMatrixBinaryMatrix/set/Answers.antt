-- What the check leaves to show of `sparse_matrix::SparseBinaryMatrix::set`.
use Rattle.std.proofs.Common.{◌≡◌, ◌<◌, false, [], length, refl, subst, ◌∙◌, inl, inr, arith}
use Rattle.std.specs.Option.{is_some}
use Rattle.std.proofs.lemmas.List.{get_or_read}
use Rattle.rq_standard.specs.BitTableSteps.{bit_of}
use Rattle.rq_parts.specs.SparseBinaryVec.{SetsListed}
use Rattle.rq_matrix.proofs.SparseMatrixLaws.{sets_listed, sets_tail}
use Rattle.rq_matrix.proofs.StoredRows.{with_row_set}
use Rattle.rq_matrix.proofs.sparse_matrix.SparseBinaryMatrixBinaryMatrix.set.Goals as goal

pub invariant_of-self : goal.invariant_of-self
invariant_of-self c =
    let old = c.args.self.now in
    let off : is_some old.index ≡ false = elim c.requires.settable [ inl off ↦ off | inr from ↦ absurd (omega (arith, c.if-j-self.true)) ] in
    let in_columns : c.from-column.result < length old.column_order.order = omega (arith, c.from-column.ensures, c.stored_column.ensures.below) in
    with_row_set old off c.stored_row-row.result c.stored_row-row.ensures.below c.index_mut.result.now c.insert.new.self c.index_mut.ensures.value c.from-column.result c.args.value c.insert.result in_columns
    c.insert.ensures.ok c.insert.ensures.refused c.insert.ensures.increasing

pub returns-in_ok-insert-clause-ok : goal.returns-in_ok-insert-clause-ok
returns-in_ok-insert-clause-ok c =
    let old = c.args.self.now in
    let rows = old.rows.items in
    let row = c.stored_row-row.result in
    let in_rows = c.stored_row-row.ensures.below in
    let read = get_or_read rows row c.index_mut.result.now in_rows c.index_mut.ensures.value [] in
    let sets = subst (λ l. SetsListed l c.from-column.result c.args.value c.insert.new.self) read c.in_ok-insert.ensures.ok in
    sets_listed old.height old.width old.boundary (is_some old.index) rows old.row_order old.column_order old.tail c.args.i c.args.j row c.from-column.result c.args.value c.insert.new.self old.rows_in_order old.columns_in_order
    (omega (arith, old.ordered, old.height_within)) c.requires.row old.ordered c.if-j-self.true (omega (arith, old.boundary_within, old.width_within)) c.stored_row-row.ensures.value (c.from-column.ensures ∙ c.stored_column.ensures.value) sets

pub returns-else-j-self-clause-ok : goal.returns-else-j-self-clause-ok
returns-else-j-self-clause-ok c =
    let old = c.args.self.now in
    sets_tail old.height old.width old.boundary (is_some old.index) old.rows.items old.row_order old.column_order old.tail c.set.new.self c.args.i c.args.j c.stored_row-row.result c.args.value (bit_of c.args.value) old.rows_in_order
    (omega (arith, old.ordered, old.height_within)) c.requires.row c.if-j-self.false c.requires.column c.stored_row-row.ensures.value refl c.set.ensures
