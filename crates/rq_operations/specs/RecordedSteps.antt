-- What steps mean, and which of several were done.
use Rattle.std.specs.Prelude.{◌≡◌, ℕ, ◌≤◌, List, ◌∷◌, length, take}
use Rattle.rq_algebra.specs.Operations.{Operation, AddAssign, MulAssign, Fma}
use Rattle.rq_bytes.specs.SymbolSlab.{Slab, after_all}
use Rattle.rq_operations.specs.declared.steps.Step.{Step}
use Rattle.rq_operations.specs.declared.steps.Step.TheVariants as steps

abbrev pub operation_of_step : Step → Operation
operation_of_step (steps.Add dest src) = AddAssign dest src
operation_of_step (steps.Multiply scalar dest) = MulAssign dest scalar
operation_of_step (steps.AddMultiple scalar dest src) = Fma dest src scalar

-- an operation was performed, and `count` of those behind it
pub record PerformsFirst (first : Operation) (behind : List Operation) (count : ℕ) (old new : Slab) : Type 0 where
  pub within : count ≤ length behind
  pub performed : new ≡ after_all (first ∷ take count behind) old
