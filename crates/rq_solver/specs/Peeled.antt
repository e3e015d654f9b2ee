-- What the first phase leaves, and the rows on their way through the phases behind it.
use Rattle.std.specs.Prelude.{◌≡◌, ◌≢◌, ℕ, ◌+◌, ◌-◌, ◌<◌, ◌≤◌, List, length}
use Rattle.rq_algebra.specs.Systems.{at}
use Rattle.rq_peeling.specs.Peeling.{Pivots}
use Rattle.rq_elimination.specs.RowSteps.{AreRows}
use Rattle.rq_elimination.specs.declared.recorded.RecordedRows.{RecordedRows}
use Rattle.rq_solver.specs.PivotAdditions.{PeelsRows, PivotsHaveTaken}
use Rattle.rq_solver.specs.declared.pi_solver.peeled.Peeled.{Peeled}

-- how many columns are inactive
abbrev pub inactive_count : Pivots → ℕ
inactive_count pivots = length pivots.places - length pivots.rows

-- columns have pivots, what the first phase did is recorded, and the table has the inactive columns of the rows
pub record HasTakenPivots (p : Peeled) (state : RecordedRows) : Type 0 where
  pub peeled : PeelsRows p.ones p.peeling
  pub height : length state.table.rows ≡ length p.ones
  pub wide : length p.peeling.places ≤ length p.peeling.rows + state.table.width
  pub taken : PivotsHaveTaken p.ones p.peeling p.bounds.items state

-- beside them stand the rows that are left
pub record IsUnderWay (p : Peeled) (left : List ℕ) (state : RecordedRows) : Type 0 where
  pub pivots : HasTakenPivots p state
  pub listed : AreRows left state.table
  pub apart : (q f : ℕ) → q < length p.peeling.rows → f < length left → at p.peeling.rows q ≢ at left f
