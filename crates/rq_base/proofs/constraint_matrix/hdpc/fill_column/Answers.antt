use Rattle.std.proofs.Common.{◌∙◌}
use Rattle.rq_base.proofs.HdpcSteps.{filled_more}
use Rattle.rq_base.proofs.constraint_matrix.hdpc.fill_column.Goals as goal

pub loop-i-preserved : goal.loop-i-preserved
loop-i-preserved c =
    let below = rw c.hdpc_symbols-i-end.ensures.value at c.loop-i-test.true in
    filled_more c.args.row.now.numbers _ _ c.args.column c.loop-i.i _ c.loop-i.invariant below c.requires.column c.set.ensures (c.new.ensures ∙ c.requires.octets.each c.loop-i.i below)
