-- What the loop keeps in `replay::replay`.
use Rattle.std.proofs.Common.{◌≡◌, map, length}
use Rattle.rq_algebra.specs.Operations.{AreAllowed}
use Rattle.rq_operations.specs.RecordedSteps.{operation_of_step}
use Rattle.rq_bytes.specs.SymbolSlab.{after_all}
use Rattle.rq_operations.proofs.replay.replay.Given as goal

abbrev pub invariant-loop-step : goal.invariant-loop-step
invariant-loop-step l = record {
  allowed : AreAllowed (length l.symbols.values) l.symbols.order (map operation_of_step l.left);
  same : after_all (map operation_of_step l.left) l.symbols ≡ after_all (map operation_of_step l.fn.steps) l.fn.symbols;
}

abbrev pub decreases-loop-step : goal.decreases-loop-step
decreases-loop-step l = length l.left
