-- Steps by the rows that they change, and by what they make of rows.
use Rattle.std.specs.Prelude.{◌≡◌, ℕ, ◌<◌, List, All}
use Rattle.rq_algebra.specs.Systems.{at}
use Rattle.rq_algebra.specs.Operations.{Operation}
use Rattle.rq_standard.specs.OctetField.{octets}
use Rattle.rq_elimination.specs.RowSteps.{rows_after, IsStepTo}
use Rattle.rq_elimination.specs.declared.recorded.RecordedRows.{RecordedRows}

-- one of the first `count` rows of a list
abbrev pub IsFirstOf : List ℕ → ℕ → ℕ → Type 0
IsFirstOf rows count r = (q : ℕ) × (q < count) × (at rows q ≡ r)

-- Steps were done, each of which changes a row of which `Changes` holds. `Effect` holds of what rows were and of what they are then, whatever they were.
pub record TakesSteps
    (Done : List Operation → RecordedRows → RecordedRows → Type 0) (Changes : ℕ → Type 0) (Effect : (ℕ → ℕ → ℕ) → (ℕ → ℕ → ℕ) → Type 0)
    (old new : RecordedRows) : Type 0 where
  pub steps : List Operation
  pub done : Done steps old new
  pub within : All (IsStepTo Changes) steps
  pub effect : (m : ℕ → ℕ → ℕ) → Effect m (rows_after octets steps m)
