-- What the loop keeps in `runs::read_run`.
use Rattle.std.proofs.Common.{◌≡◌, map, take}
use Rattle.rq_operations.specs.RecordedSteps.{operation_of_step}
use Rattle.rq_operations.proofs.runs.read_run.Given as goal

abbrev pub invariant-loop-count : goal.invariant-loop-count
invariant-loop-count g l = take l.count (map operation_of_step l.steps) ≡ map (g.K.StepKind.operation l.kind) (take l.count l.items)
