-- What the check leaves to show of `sparse_matrix::rows::count_between`.
use Rattle.std.proofs.Common.{◌≡◌, ◌+◌, ◌<◌, ℕ, length, get_or, sym, ap, ◌∙◌, inl, inr, arith}
use Rattle.rq_matrix.proofs.ColumnIndexLaws.{pairs-push, pairs-skip}
use Rattle.rq_matrix.proofs.sparse_matrix.rows.count_between.Goals as goal
use Rattle.rq_matrix.proofs.sparse_matrix.rows.count_between.Goals.{then-start-column+then-column-end, else-start-column, else-start-column-via-then-start-column+else-column-end, else-start-column-via-else-start-column}

pub loop-i-preserved : goal.loop-i-preserved
loop-i-preserved c =
    let ones = c.args.row.now in
    let columns = c.args.columns.now in
    let n = c.loop-i.i in
    let column = c.from-column.result in
    let kept = c.loop-i.invariant in
    let within : n < length ones = omega (arith, c.len-i-end.ensures.count) in
    let is : column ≡ get_or columns (get_or ones n 0) 0 = c.from-column.ensures ∙ ap (λ k. get_or columns k 0) (ap (λ (p : ℕ × ℕ). p.0) c.get_by_raw_index-one.ensures) in
    elim c.if-start-column.branch [
      | then-start-column+then-column-end w ↦
          record {
            counted = w.count-is ∙ ap (λ x. x + 1) kept.counted ∙ sym (pairs-push ones columns c.args.start c.args.end n column within is w.if-start-column.true w.if-column-end.true);
            few = omega (arith, w.count-is, kept.few);
          }
      | else-start-column w ↦
          record {
            counted = w.count-is ∙ kept.counted
                ∙ sym (pairs-skip ones columns c.args.start c.args.end n column within is (elim w.else-start-column.branch [
                  | else-start-column-via-then-start-column+else-column-end v ↦ inr v.if-column-end.false
                  | else-start-column-via-else-start-column v ↦ inl v.if-start-column.false
                ]));
            few = omega (arith, w.count-is, kept.few);
          }
    ]
