-- The third phase: some of the pivots' rows are made sparse again.
use Rattle.std.specs.Prelude.{◌≡◌, ℕ, ◌+◌, ◌-◌, ◌<◌, ◌≤◌, Bool, true, false, List, length, slice_index_or}
use Rattle.rq_algebra.specs.Systems.{at}
use Rattle.rq_peeling.specs.Peeling.{Pivots}
use Rattle.rq_elimination.specs.RecordedRows.{Performs}
use Rattle.rq_elimination.specs.declared.recorded.RecordedRows.{RecordedRows}
use Rattle.rq_solver.specs.PivotAdditions.{IsCleared, IsUncleared}
use Rattle.rq_solver.specs.TakenSteps.{TakesSteps}
use Rattle.rq_solver.specs.declared.pi_solver.peeled.Peeled.{Peeled}

-- the row of a pivot has a mark, or has none
abbrev pub HasMark : List Bool → ℕ → Type 0
HasMark marks p = slice_index_or marks p false ≡ true

abbrev pub HasNoMark : List Bool → ℕ → Type 0
HasNoMark marks p = slice_index_or marks p false ≡ false

-- each row with a mark took `limit` rows at most
abbrev pub TookAtMost : ℕ → List Bool → List ℕ → Type 0
TookAtMost limit marks bounds = (p : ℕ) → p < length marks → HasMark marks p → at bounds (p + 1) - at bounds p ≤ limit

-- the row of one of the pivots from place `low` on, which has a mark
abbrev pub IsMarkedFrom : Pivots → List Bool → ℕ → ℕ → Type 0
IsMarkedFrom pivots marks low r = (q : ℕ) × (low ≤ q) × (q < length pivots.rows) × HasMark marks q × (at pivots.rows q ≡ r)

-- where the pivots' rows were cleared, those from place `low` on that have a mark are as rows of bits are
abbrev pub HasSparsified : Peeled → List Bool → ℕ → (ℕ → ℕ → ℕ) → (ℕ → ℕ → ℕ) → Type 0
HasSparsified p marks low m now =
    ((q : ℕ) → q < length p.peeling.rows → IsCleared p.peeling.rows p.peeling.order m (at p.peeling.rows q))
    → (q : ℕ) → low ≤ q → q < length p.peeling.rows → HasMark marks q → IsUncleared p.ones p.peeling.rows p.peeling.order now (at p.peeling.rows q)

-- Of the pivots' rows, the last first and up to place `low`, those that have a mark take the pivots' rows that they took in the first phase, and
-- so are as they were before, in the pivots' columns.
abbrev pub Sparsifies : Peeled → List Bool → ℕ → RecordedRows → RecordedRows → Type 0
Sparsifies p marks low old new = TakesSteps Performs (IsMarkedFrom p.peeling marks low) (HasSparsified p marks low) old new
