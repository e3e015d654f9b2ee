-- What the loops keep in `recorded::RecordedOperations::into_symbol_ops`.
use Rattle.std.proofs.Common.{◌≡◌, map, take}
use Rattle.rq_bytes.specs.SymbolOps.{operation_of}
use Rattle.rq_operations.specs.RecordedSteps.{operation_of_step}
use Rattle.rq_operations.proofs.recorded.RecordedOperations.into_symbol_ops.Given as goal

abbrev pub invariant-loop-step : goal.invariant-loop-step
invariant-loop-step l = map operation_of l.operations.items ≡ map operation_of_step (take l.step-index l.step-items)
