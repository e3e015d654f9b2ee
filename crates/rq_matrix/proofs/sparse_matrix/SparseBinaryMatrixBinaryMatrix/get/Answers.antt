-- What the check leaves to show of `sparse_matrix::SparseBinaryMatrix::get`.
use Rattle.std.proofs.Common.{ℕ, List, [], Option, get_or, sym, ap, ◌∙◌}
use Rattle.std.specs.Prelude.{unwrap_or}
use Rattle.std.proofs.lemmas.List.{get_or_read}
use Rattle.rq_parts.specs.SparseBinaryVec.{listed_bit, listed_octet}
use Rattle.rq_parts.specs.ListedLaws.{listed-small}
use Rattle.rq_matrix.specs.SparseTables.{bit-before}
use Rattle.rq_matrix.proofs.SparseRowLaws.{octet_or_zero}
use Rattle.rq_matrix.proofs.sparse_matrix.SparseBinaryMatrixBinaryMatrix.get.Goals as goal

pub returns-then-j-self : goal.returns-then-j-self
returns-then-j-self c =
    let old = c.args.self.now in
    let rows = old.rows.items in
    let row = c.stored_row-row.result in
    let in_rows = c.stored_row-row.ensures.below in
    let read = get_or_read rows row c.index.result.now in_rows c.index.ensures [] in
    let small = listed-small (get_or rows row []) c.from-column.result (old.sparse row [] in_rows).rises in
    c.unwrap_or.ensures
    ∙ ap (λ (o : Option ℕ). unwrap_or o c.zero.result) c.get.ensures
    ∙ ap (unwrap_or (listed_octet c.index.result.now c.from-column.result)) c.zero.ensures
    ∙ ap (λ (l : List ℕ). unwrap_or (listed_octet l c.from-column.result) 0) read
    ∙ octet_or_zero (get_or rows row []) c.from-column.result small
    ∙ ap (λ r. listed_bit (get_or rows r []) c.from-column.result) c.stored_row-row.ensures.value
    ∙ ap (listed_bit (get_or rows (get_or old.row_order.order c.args.i 0) [])) (c.from-column.ensures ∙ c.stored_column.ensures.value)
    ∙ sym (bit-before old.width old.boundary rows old.row_order old.column_order old.tail c.args.i c.args.j c.if-j-self.true)
