-- The operations of each phase, and how many they are.
use Rattle.std.specs.Prelude.{◌≡◌, ℕ, ◌+◌, ◌++◌, ◌≤◌, List, drop, take}
use Rattle.std.specs.List.{slice_range}
use Rattle.rq_algebra.specs.Operations.{Operation}
use Rattle.rq_elimination.specs.OperationCounts.{additions, multiplications}
use Rattle.rq_elimination.specs.declared.counts.OperationCounts.{OperationCounts}
use Rattle.rq_elimination.specs.declared.counts.PhaseCounts.{PhaseCounts}
use Rattle.rq_elimination.specs.declared.counts.PhaseEnds.{PhaseEnds}

-- the operations of all phases
abbrev pub total_of : PhaseCounts → ℕ
total_of counts = counts.first + counts.second + counts.fourth

-- each stretch ends where the next begins, among n operations
pub record AreInOrder (ends : PhaseEnds) (n : ℕ) : Type 0 where
  pub first : ends.cleared ≤ ends.eliminated
  pub forward : ends.eliminated ≤ ends.sparsified
  pub sparsifying : ends.sparsified ≤ ends.substituted
  pub back : ends.substituted ≤ n

-- what each phase recorded
abbrev pub first_of : PhaseEnds → List Operation → List Operation
first_of ends operations = take ends.cleared operations

abbrev pub second_of : PhaseEnds → List Operation → List Operation
second_of ends operations = slice_range operations ends.cleared ends.eliminated ++ slice_range operations ends.sparsified ends.substituted

abbrev pub fourth_of : PhaseEnds → List Operation → List Operation
fourth_of ends operations = slice_range operations ends.eliminated ends.sparsified ++ drop ends.substituted operations

-- each phase's count is that of the operations that it recorded
pub record CountsEach (count : List Operation → ℕ) (ends : PhaseEnds) (operations : List Operation) (counts : PhaseCounts) : Type 0 where
  pub first : counts.first ≡ count (first_of ends operations)
  pub second : counts.second ≡ count (second_of ends operations)
  pub fourth : counts.fourth ≡ count (fourth_of ends operations)

-- of both kinds
pub record AreCountsOf (ends : PhaseEnds) (operations : List Operation) (counts : OperationCounts) : Type 0 where
  pub additions_are : CountsEach additions ends operations counts.additions
  pub multiplications_are : CountsEach multiplications ends operations counts.multiplications
