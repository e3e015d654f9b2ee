-- What callers see of recorded operations.
use Rattle.std.specs.Prelude.{List, [], ◌∷◌, ◌++◌, map}
use Rattle.rq_algebra.specs.Operations.{Operation, Reorder}
use Rattle.rq_operations.specs.RecordedSteps.{operation_of_step}
use Rattle.rq_operations.specs.declared.recorded.RecordedOperations.{RecordedOperations}

-- its steps, and then the order
abbrev pub operations_of : RecordedOperations → List Operation
operations_of r = map operation_of_step r.steps.items ++ Reorder r.order.items ∷ []
