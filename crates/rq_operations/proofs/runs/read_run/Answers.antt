-- What the check leaves to show of `runs::read_run`.
use Rattle.std.proofs.Common.{arith}
use Rattle.rq_operations.proofs.Performed.{run_more}
use Rattle.rq_operations.proofs.runs.read_run.Goals as goal

pub loop-count-preserved : goal.loop-count-preserved
loop-count-preserved g c =
    let step = c.index-steps-count in
    run_more (g.K.StepKind.operation c.args.kind.now) c.args.steps.now step.result c.loop-count.items c.in-Some.item c.loop-count.count
    (omega (arith, c.loop-count-test.true, c.min-most.ensures)) step.is (omega (arith, c.loop-count.auto.items, c.loop-count-test.true, c.min-most.ensures)) c.in-Some.ensures c.loop-count.invariant
