use Rattle.std.proofs.Common.{◌+◌, ◌-◌, set, ap, ◌∙◌, arith}
use Rattle.rq_parts.specs.DenseOctetMatrix.{row_at, with_row}
use Rattle.rq_standard.specs.Equations.{before_hdpc}
use Rattle.rq_base.proofs.HdpcSteps.{rows_more}
use Rattle.rq_base.proofs.constraint_matrix.hdpc.last_columns.Goals as goal

pub loop-i-preserved : goal.loop-i-preserved
loop-i-preserved c =
    let row = c.args.row.now.numbers in
    let i = c.loop-i.i in
    let before = c.before_hdpc-before_hdpc in
    let old = c.loop-i.matrix in
    let mid = c.set.new.self in
    rows_more row c.loop-i.matrix c.set.new.self c.set-in-loop-i.new.self i c.loop-i.invariant (omega arith) (omega (arith, before.ensures.value))
    (c.set.ensures ∙ ap (λ k. with_row old i (set (row_at old i) (k - 1) c.alpha.result)) before.ensures.value ∙ ap (λ v. with_row old i (set (row_at old i) (before_hdpc row - 1) v)) c.alpha.ensures)
    (c.set-in-loop-i.ensures ∙ ap (λ k. with_row mid i (set (row_at mid i) (k + i) c.one.result)) before.ensures.value ∙ ap (λ v. with_row mid i (set (row_at mid i) (before_hdpc row + i) v)) c.one.ensures)
