-- What the loop keeps in `counts::count_steps`.
use Rattle.std.proofs.Common.{◌≡◌, ◌≤◌, map, take}
use Rattle.rq_operations.specs.RecordedSteps.{operation_of_step}
use Rattle.rq_elimination.specs.OperationCounts.{additions, multiplications}
use Rattle.rq_elimination.proofs.counts.count_steps.Given as goal

abbrev pub invariant-loop-step : goal.invariant-loop-step
invariant-loop-step l = record {
  additions_are : l.added ≡ additions (map operation_of_step (take l.step-index l.steps));
  multiplications_are : l.multiplied ≡ multiplications (map operation_of_step (take l.step-index l.steps));
  added_fits : l.added ≤ l.step-index;
  multiplied_fits : l.multiplied ≤ l.step-index;
}
