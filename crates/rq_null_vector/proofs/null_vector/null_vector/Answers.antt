-- What the check leaves to show of `null_vector::null_vector`.
use Rattle.std.proofs.Common.{◌≡◌, ◌<◌, length, take, ap, ◌∙◌}
use Rattle.std.specs.List.{range_with_len}
use Rattle.std.proofs.lemmas.List.{with_items_is, length-take-le}
use Rattle.std.proofs.lemmas.List.Elements.{All-from_get_or, All-take}
use Rattle.std.proofs.lemmas.List.FromFn.{length-range_with_len}
use Rattle.rq_matrix.proofs.OrderLaws.{first_numbers}
use Rattle.rq_parts.specs.DenseOctetMatrix.{entry_of}
use Rattle.rq_standard.specs.ConstraintMatrix.{with_octet_rows}
use Rattle.rq_null_vector.proofs.FreeColumns.{determined_rows, homogeneous_rows}
use Rattle.rq_null_vector.proofs.AllRows.{all_rows}
use Rattle.rq_null_vector.proofs.null_vector.null_vector.Goals as goal

pub reduce-requires-clause-rows : goal.reduce-requires-clause-rows
reduce-requires-clause-rows g c = rw (c.as_mut_slice.ensures.value, c.in_ok-rows.ensures.ran.2.0 ∙ first_numbers c.height.result c.in_ok-rows.ensures.ran.0 c.in_ok-rows.ensures.ran.1, c.height.ensures) (all_rows c.in_ok-matrix.matrix)

pub returns-in_default-clause-shown : goal.returns-in_default-clause-shown
returns-in_default-clause-shown g c =
    let content = g.T.BinaryMatrix.content c.args.bits.now in
    let wanted = with_octet_rows c.args.first_hdpc (length c.args.hdpc.now.rows) content.bit (entry_of c.args.hdpc.now) in
    let start = c.in_ok-matrix.matrix in
    let all : length c.reduce.new.rows ≡ length start.rows = c.reduce.auto.rows ∙ ap length (c.as_mut_slice.ensures.value ∙ c.in_ok-rows.ensures.ran.2.0 ∙ first_numbers c.height.result c.in_ok-rows.ensures.ran.0 c.in_ok-rows.ensures.ran.1 ∙ ap (range_with_len 0) c.height.ensures) ∙ length-range_with_len 0 (length start.rows) in
    let reduced = rw (c.in_default.is, c.width.ensures.width) at c.reduce.ensures.pivots in
    determined_rows content.height content.width wanted start c.reduce.new.matrix c.in_ok-matrix.ensures.rows c.in_ok-matrix.ensures.width c.reduce.new.rows c.reduce.ensures.keeps c.reduce.ensures.rows all reduced

pub column_of_pivots-requires-clause-rows : goal.column_of_pivots-requires-clause-rows
column_of_pivots-requires-clause-rows g c =
    let same : c.deref.result.now ≡ c.reduce.new.rows = c.deref.ensures.value ∙ with_items_is c.in_ok-rows.rows c.reduce.new.rows (c.reduce.auto.rows ∙ c.as_mut_slice.ensures.len) in
    rw same (All-take (λ r. r < length c.reduce.new.matrix.rows) c.in-Some.free c.reduce.new.rows (All-from_get_or (λ r. r < length c.reduce.new.matrix.rows) c.reduce.new.rows 0 c.reduce.ensures.rows.below))

pub returns-clause-shown : goal.returns-clause-shown
returns-clause-shown g c =
    let content = g.T.BinaryMatrix.content c.args.bits.now in
    let wanted = with_octet_rows c.args.first_hdpc (length c.args.hdpc.now.rows) content.bit (entry_of c.args.hdpc.now) in
    let start = c.in_ok-matrix.matrix in
    let rows = c.reduce.new.rows in
    let free = c.in-Some.free in
    let all : length rows ≡ length start.rows = c.reduce.auto.rows ∙ ap length (c.as_mut_slice.ensures.value ∙ c.in_ok-rows.ensures.ran.2.0 ∙ first_numbers c.height.result c.in_ok-rows.ensures.ran.0 c.in_ok-rows.ensures.ran.1 ∙ ap (range_with_len 0) c.height.ensures) ∙ length-range_with_len 0 (length start.rows) in
    let same : c.deref.result.now ≡ rows = c.deref.ensures.value ∙ with_items_is c.in_ok-rows.rows rows (c.reduce.auto.rows ∙ c.as_mut_slice.ensures.len) in
    let lacks = c.in-Some.ensures.pivots in
    let count : length (take free rows) ≡ free = length-take-le free rows lacks.reduced.fits in
    homogeneous_rows content.height content.width wanted start c.reduce.new.matrix c.in_ok-matrix.ensures.rows c.in_ok-matrix.ensures.width rows c.reduce.ensures.keeps c.reduce.ensures.rows all free lacks c.in_ok-column.column.items (rw (same, count, c.width-2.ensures.width) at c.in_ok-column.ensures)
