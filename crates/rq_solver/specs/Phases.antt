-- What the phases behind the first make of the rows of a system.
use Rattle.std.specs.Prelude.{◌≡◌, ℕ, ◌+◌, ◌-◌, ◌*◌, ◌≤◌, ◌∷◌, ◌++◌, [], Bool, List, Option, Vec, MatchOption, length}
use Rattle.std.specs.Global.{Global}
use Rattle.std.specs.List.Sorted.{IsPermutation}
use Rattle.std.specs.Option.{option_map}
use Rattle.rq_algebra.specs.Operations.{Operation, Reorder, FindsColumn}
use Rattle.rq_algebra.specs.Systems.{HasHomogeneousColumn, IsHomogeneousColumn}
use Rattle.rq_standard.specs.OctetField.{octets}
use Rattle.rq_peeling.specs.System.{rows_of_system}
use Rattle.rq_peeling.specs.declared.system.System.{System}
use Rattle.rq_elimination.specs.OperationCounts.{additions}
use Rattle.rq_elimination.specs.RecordedRows.{ChangesRows}
use Rattle.rq_elimination.specs.RowSteps.{IsEchelon, IsStuck}
use Rattle.rq_elimination.specs.declared.counts.PhaseEnds.{PhaseEnds}
use Rattle.rq_elimination.specs.declared.recorded.RecordedRows.{RecordedRows}
use Rattle.rq_solver.specs.FirstPhase.{HasPeeledPivots}
use Rattle.rq_solver.specs.FourthPhase.{FinishesAllPivots}
use Rattle.rq_solver.specs.ThirdPhase.{Sparsifies}
use Rattle.rq_solver.specs.Peeled.{inactive_count}
use Rattle.rq_solver.specs.SecondPhase.{SubstitutesBack}
use Rattle.rq_solver.specs.declared.pi_solver.peeled.Peeled.{Peeled}

-- ---- what is found

-- operations solve rows; or there are none, and the rows have a homogeneous column
abbrev pub SolvesRows : ℕ → ℕ → (ℕ → ℕ → ℕ) → Option (List Operation) → Type 0
SolvesRows height width rows found = MatchOption found (HasHomogeneousColumn octets height width rows) (FindsColumn octets height width rows)

-- operations solve the rows of a system, or they have such a column
abbrev pub SolvesSystem : System → Option (List Operation) → Type 0
SolvesSystem system found = SolvesRows (length system.ones) system.width (rows_of_system system) found

-- a column that isn't all zeros solves the rows of a system with zeros as values
abbrev pub ShowsSystem : System → List ℕ → Type 0
ShowsSystem system column = IsHomogeneousColumn octets (length system.ones) system.width (rows_of_system system) column

-- what was recorded, and then puts the rows in an order, if there is one
abbrev pub then_ordered : List Operation → Option (Vec ℕ Global) → Option (List Operation)
then_ordered recorded order = option_map (λ rows. recorded ++ Reorder rows.items ∷ []) order

-- whatever rows had the pivots, what is recorded solves them
abbrev pub FindsOrder : Peeled → List ℕ → RecordedRows → RecordedRows → Option (Vec ℕ Global) → Type 0
FindsOrder p left old new order = (system : ℕ → ℕ → ℕ)
    → HasPeeledPivots (length p.ones) (length p.peeling.places) system p.peeling left old
    → SolvesRows (length p.ones) (length p.peeling.places) system (then_ordered new.operations order)

-- ---- what was done

-- how often rows are added at most
abbrev pub AddsLater : Peeled → List ℕ → RecordedRows → RecordedRows → Type 0
AddsLater p left old new =
    additions new.operations
    ≤ additions old.operations + inactive_count p.peeling * (length p.peeling.rows + length left - 1) + 2 * (length p.peeling.rows * p.sparsify_limit)

-- the second phase worked on the rows that are left among themselves, and an inactive column has no pivot
pub record LacksPivots (p : Peeled) (before after : List ℕ) (old new : RecordedRows) (ends : PhaseEnds) : Type 0 where
  pub permuted : IsPermutation before after
  pub changes : ChangesRows before old new
  pub stuck : IsStuck after (inactive_count p.peeling) new.table
  pub stretches : ends
      ≡ record {
        cleared = length old.operations;
        eliminated = length new.operations;
        sparsified = length new.operations;
        substituted = length new.operations;
      }

-- The second phase worked on the rows that are left among themselves until each inactive column had its pivot in one of them. The third
-- made some of the pivots' rows sparse, the second substituted back, and the fourth cleared the inactive columns. What each recorded stands
-- between its ends.
pub record SolvesInactive (p : Peeled) (before after : List ℕ) (old new : RecordedRows) (ends : PhaseEnds) : Type 0 where
  pub forward : RecordedRows
  pub sparse : RecordedRows
  pub back : RecordedRows
  pub marks : List Bool
  pub permuted : IsPermutation before after
  pub changes : ChangesRows before old forward
  pub echelon : IsEchelon after (inactive_count p.peeling) forward.table
  pub sparsifies : Sparsifies p marks 0 forward sparse
  pub reduces : SubstitutesBack after (inactive_count p.peeling) 0 sparse back
  pub finishes : FinishesAllPivots p after marks back new
  pub stretches : ends
      ≡ record {
        cleared = length old.operations;
        eliminated = length forward.operations;
        sparsified = length sparse.operations;
        substituted = length back.operations;
      }

-- whether the inactive columns have pivots, and what was done
abbrev pub RunsLater : Peeled → List ℕ → List ℕ → RecordedRows → RecordedRows → PhaseEnds × Option (Vec ℕ Global) → Type 0
RunsLater p before after old new answer =
    MatchOption answer.1 (LacksPivots p before after old new answer.0) (λ order. SolvesInactive p before after old new answer.0)
