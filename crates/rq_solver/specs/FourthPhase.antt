-- The fourth phase: the pivots' rows get zeros in the inactive columns. Those made sparse then take rows again, which is the fifth.
use Rattle.std.specs.Prelude.{◌≡◌, ℕ, ◌+◌, ◌*◌, ◌<◌, Bool, List, length}
use Rattle.rq_algebra.specs.Systems.{at}
use Rattle.rq_parts.specs.DenseOctetMatrix.{OctetTable, entry_of}
use Rattle.rq_peeling.specs.Peeling.{Pivots}
use Rattle.rq_elimination.specs.RecordedRows.{Records}
use Rattle.rq_elimination.specs.declared.recorded.RecordedRows.{RecordedRows}
use Rattle.rq_solver.specs.Peeled.{inactive_count}
use Rattle.rq_solver.specs.PivotAdditions.{IsCleared, IsUncleared}
use Rattle.rq_solver.specs.SecondPhase.{AreUnits}
use Rattle.rq_solver.specs.ThirdPhase.{HasMark, HasNoMark}
use Rattle.rq_solver.specs.TakenSteps.{IsFirstOf, TakesSteps}
use Rattle.rq_solver.specs.declared.pi_solver.peeled.Peeled.{Peeled}

-- a pivot's row has 1 in its own column alone
pub record IsFinished (pivots : Pivots) (column : ℕ → ℕ) (m : ℕ → ℕ → ℕ) (r : ℕ) : Type 0 where
  pub cleared : IsCleared pivots.rows pivots.order m r
  pub zeros : (f : ℕ) → f < inactive_count pivots → m r (column f) ≡ 0

-- Before that the rows with the inactive columns' pivots have 1 in their own column alone, the table shows what the pivots' rows have in the inactive columns,
-- and these are cleared, or have what rows of bits have where they have a mark.
pub record AreUnfinished (p : Peeled) (left : List ℕ) (marks : List Bool) (table : OctetTable) (column : ℕ → ℕ) (m : ℕ → ℕ → ℕ) : Type 0 where
  pub units : AreUnits left 0 (inactive_count p.peeling) column m
  pub zeros : (f i : ℕ) → f < inactive_count p.peeling → i < length p.peeling.rows → m (at left f) (at p.peeling.order i) ≡ 0
  pub shown : (q f : ℕ) → q < length p.peeling.rows → f < inactive_count p.peeling → m (at p.peeling.rows q) (column f) ≡ entry_of table (at p.peeling.rows q) f
  pub plain : (q : ℕ) → q < length p.peeling.rows → HasNoMark marks q → IsCleared p.peeling.rows p.peeling.order m (at p.peeling.rows q)
  pub raw : (q : ℕ) → q < length p.peeling.rows → HasMark marks q → IsUncleared p.ones p.peeling.rows p.peeling.order m (at p.peeling.rows q)

-- the first of the pivots' rows are finished, where all were unfinished
abbrev pub HasFinished : Peeled → List ℕ → List Bool → ℕ → OctetTable → (ℕ → ℕ → ℕ) → (ℕ → ℕ → ℕ) → Type 0
HasFinished p left marks done table m now =
    (column : ℕ → ℕ) → AreUnfinished p left marks table column m → (q : ℕ) → q < done → IsFinished p.peeling column now (at p.peeling.rows q)

-- The first of the pivots' rows take the rows with the inactive columns' pivots, and those that have a mark then take the pivots' rows again.
abbrev pub FinishesPivots : Peeled → List ℕ → List Bool → ℕ → RecordedRows → RecordedRows → Type 0
FinishesPivots p left marks done old new = TakesSteps Records (IsFirstOf p.peeling.rows done) (HasFinished p left marks done old.table) old new

-- all pivots' rows are finished
abbrev pub FinishesAllPivots : Peeled → List ℕ → List Bool → RecordedRows → RecordedRows → Type 0
FinishesAllPivots p left marks old new = FinishesPivots p left marks (length p.peeling.rows) old new

-- how often the pivots' rows take others at most when they are cleared in the inactive columns
abbrev pub finish_bound : Peeled → ℕ
finish_bound p = length p.peeling.rows * (inactive_count p.peeling + p.sparsify_limit)
