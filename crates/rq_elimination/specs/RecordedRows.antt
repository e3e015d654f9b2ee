-- Steps on rows that are worked on, and what was recorded for them.
use Rattle.std.specs.Prelude.{◌≡◌, ℕ, ◌+◌, ◌<◌, ◌≤◌, List, ◌++◌, All, length}
use Rattle.rq_algebra.specs.Operations.{Operation}
use Rattle.rq_standard.specs.OctetField.{octets}
use Rattle.rq_parts.specs.DenseOctetMatrix.{entry_of}
use Rattle.rq_elimination.specs.OperationCounts.{additions}
use Rattle.rq_elimination.specs.RowSteps.{rows_after, AreStepsBelow, IsStepAmong}
use Rattle.rq_elimination.specs.declared.recorded.RecordedRows.{RecordedRows}

-- at most n additions more were recorded
abbrev pub AddsAtMost : ℕ → RecordedRows → RecordedRows → Type 0
AddsAtMost n old new = additions new.operations ≤ additions old.operations + n

-- these steps were done to the rows, and were recorded
pub record Performs (steps : List Operation) (old new : RecordedRows) : Type 0 where
  pub recorded : new.operations ≡ old.operations ++ steps
  pub among : AreStepsBelow octets (length old.table.rows) steps
  pub width : new.table.width ≡ old.table.width
  pub height : length new.table.rows ≡ length old.table.rows
  pub entries : (i k : ℕ) → i < length old.table.rows → k < old.table.width → entry_of new.table i k ≡ rows_after octets steps (entry_of old.table) i k

-- these steps were recorded alone: the table still shows the rows as they were
pub record Records (steps : List Operation) (old new : RecordedRows) : Type 0 where
  pub recorded : new.operations ≡ old.operations ++ steps
  pub among : AreStepsBelow octets (length old.table.rows) steps
  pub table : new.table ≡ old.table

-- steps among some of the rows were done and recorded
pub record ChangesRows (rows : List ℕ) (old new : RecordedRows) : Type 0 where
  pub steps : List Operation
  pub performs : Performs steps old new
  pub within : All (IsStepAmong octets rows) steps
