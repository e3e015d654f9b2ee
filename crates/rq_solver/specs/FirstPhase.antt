-- What the first phase makes of the rows of a system.
use Rattle.std.specs.Prelude.{◌≡◌, ◌≢◌, ℕ, ◌+◌, ◌*◌, ◌<◌, ◌≤◌, List, All, Contains, length}
use Rattle.std.specs.List.{range_with_len}
use Rattle.rq_algebra.specs.Operations.{Operation}
use Rattle.rq_algebra.specs.Systems.{at, HasElements}
use Rattle.rq_standard.specs.OctetField.{octets}
use Rattle.rq_parts.specs.DenseOctetMatrix.{entry_of}
use Rattle.rq_peeling.specs.Peeling.{Pivots}
use Rattle.rq_peeling.specs.System.{rows_of_system}
use Rattle.rq_peeling.specs.declared.system.System.{System}
use Rattle.rq_elimination.specs.OperationCounts.{additions}
use Rattle.rq_elimination.specs.RowSteps.{IsStepAmong, rows_after}
use Rattle.rq_elimination.specs.declared.recorded.RecordedRows.{RecordedRows}
use Rattle.rq_solver.specs.HdpcOctets.{hdpc_bound, HaveZeros}
use Rattle.rq_solver.specs.PivotAdditions.{IsCleared, PivotsHaveZeros}

-- After what was recorded the rows of a system have the pivots of the peeling: each pivot's column has one 1, in the pivot's row, and zeros
-- in the rows that are left. The table shows the inactive columns.
pub record HasPeeledPivots (height width : ℕ) (system : ℕ → ℕ → ℕ) (peeled : Pivots) (left : List ℕ) (state : RecordedRows) : Type 0 where
  pub elements : HasElements octets height width system
  pub among : All (IsStepAmong octets (range_with_len 0 height)) state.operations
  pub height_is : length state.table.rows ≡ height
  pub wide : width ≤ length peeled.rows + state.table.width
  pub shows : (r f : ℕ) → r < height → length peeled.rows + f < width
      → entry_of state.table r f ≡ rows_after octets state.operations system r (at peeled.order (length peeled.rows + f))
  pub pivots : (p : ℕ) → p < length peeled.rows → IsCleared peeled.rows peeled.order (rows_after octets state.operations system) (at peeled.rows p)
  pub others : (r p : ℕ) → Contains left r → p < length peeled.rows → rows_after octets state.operations system r (at peeled.order p) ≡ 0

-- what was recorded gives the rows of a system the pivots of a peeling; these others are left
abbrev pub ClearsPivots : System → Pivots → List ℕ → RecordedRows → Type 0
ClearsPivots system peeling left state = HasPeeledPivots (length system.ones) system.width (rows_of_system system) peeling left state

-- each pivot's row is added to each row of bits at most, and the HDPC rows are cleared
abbrev pub AddsFirst : System → Pivots → RecordedRows → Type 0
AddsFirst system peeling state =
    additions state.operations ≤ length system.ones * length peeling.rows + hdpc_bound (length system.hdpc.rows) system.width (length peeling.rows)

-- Rows of bits take rows of pivots and no others, HDPC rows take those and one another: in a column in which the rows of pivots have zeros, rows
-- of bits stay as they are, and HDPC rows keep zeros.
pub record TakesPivotsAlone (system : System) (pivots : List ℕ) (operations : List Operation) : Type 0 where
  pub bits : (m : ℕ → ℕ → ℕ) (k : ℕ) → PivotsHaveZeros pivots m k
      → (r : ℕ) → ((i : ℕ) → i < length system.hdpc.rows → system.first_hdpc + i ≢ r) → rows_after octets operations m r k ≡ m r k
  pub hdpc : (m : ℕ → ℕ → ℕ) (k : ℕ) → PivotsHaveZeros pivots m k → HaveZeros system.first_hdpc (length system.hdpc.rows) m k
      → HaveZeros system.first_hdpc (length system.hdpc.rows) (rows_after octets operations m) k
