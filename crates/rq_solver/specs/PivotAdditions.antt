-- Rows of bits take the rows of pivots, by operations that stand where their bounds say.
use Rattle.std.specs.Prelude.{◌≡◌, ◌≢◌, ℕ, ◌+◌, ◌<◌, ◌≤◌, ◌==◌, if◌then◌else◌, List, [], ◌++◌, All, Contains, count_by, length, slice_range}
use Rattle.rq_algebra.specs.Systems.{at}
use Rattle.rq_algebra.specs.Operations.{Operation, AddAssign}
use Rattle.rq_standard.specs.OctetField.{octets}
use Rattle.rq_peeling.specs.Peeling.{IsPeeled, Pivots}
use Rattle.rq_peeling.specs.RowOnes.{ones_of}
use Rattle.rq_peeling.specs.SystemRows.{one_in, AreRowsOfBits}
use Rattle.rq_elimination.specs.RecordedRows.{Performs}
use Rattle.rq_elimination.specs.declared.recorded.RecordedRows.{RecordedRows}
use Rattle.rq_solver.specs.TakenSteps.{IsFirstOf, TakesSteps}

-- pivots among rows of bits
pub record PeelsRows (lists : List (List ℕ)) (pivots : Pivots) : Type 0 where
  pub bits : AreRowsOfBits (length pivots.places) lists
  pub peeled : IsPeeled (length pivots.places) lists pivots

-- ---- what a row has in the pivots' columns

-- what a row of bits has there
pub record IsUncleared (lists : List (List ℕ)) (rows order : List ℕ) (m : ℕ → ℕ → ℕ) (r : ℕ) : Type 0 where
  pub entries : (i : ℕ) → i < length rows → m r (at order i) ≡ one_in lists r (at order i)

-- 1 in the column of the row's own pivot, and 0 in the others
pub record IsCleared (rows order : List ℕ) (m : ℕ → ℕ → ℕ) (r : ℕ) : Type 0 where
  pub entries : (i : ℕ) → i < length rows → m r (at order i) ≡ (if at rows i == r then 1 else 0)

-- the rows of pivots have 0 in a column
abbrev pub PivotsHaveZeros : List ℕ → (ℕ → ℕ → ℕ) → ℕ → Type 0
PivotsHaveZeros rows m k = (p : ℕ) → p < length rows → m (at rows p) k ≡ 0

-- ---- what rows take

-- a step adds another of `height` rows to row `row`
pub record IsSumOf (row height : ℕ) (step : Operation) : Type 0 where
  pub source : ℕ
  pub is : step ≡ AddAssign row source
  pub within : source < height
  pub other : source ≢ row

-- a row took the rows of the other pivots in whose columns it has these ones
pub record HasAddedPivotRows (rows order : List ℕ) (row : ℕ) (columns : List ℕ) (m now : ℕ → ℕ → ℕ) : Type 0 where
  pub taken : ((j : ℕ) → j < length rows → Contains columns (at order j) → at rows j ≢ row → IsCleared rows order m (at rows j))
      → (i : ℕ) → i < length rows → now row (at order i)
      ≡ octets.add (m row (at order i)) (if at rows i == row then 0 else count_by (λ column. column == at order i) columns)
  -- where these rows have zeros it stays as it was
  pub kept : (k : ℕ) → ((j : ℕ) → j < length rows → Contains columns (at order j) → at rows j ≢ row → m (at rows j) k ≡ 0) → now row k ≡ m row k

-- it does so by steps of which `Done` holds
pub record TakesPivotsBy
    (Done : List Operation → RecordedRows → RecordedRows → Type 0) (rows order : List ℕ) (row : ℕ) (columns : List ℕ) (old new : RecordedRows) : Type 0 where
  pub takes : TakesSteps Done (λ r. r ≡ row) (HasAddedPivotRows rows order row columns) old new
  pub sums : All (IsSumOf row (length old.table.rows)) takes.steps
  pub idle : columns ≡ [] → takes.steps ≡ []

-- a row takes the rows of pivots by steps that are done to the rows
abbrev pub TakesPivots : List ℕ → List ℕ → ℕ → List ℕ → RecordedRows → RecordedRows → Type 0
TakesPivots rows order row columns old new = TakesPivotsBy Performs rows order row columns old new

-- the steps are the operations from one place on and before another
abbrev pub StandBetween : ℕ → ℕ → List Operation → RecordedRows → RecordedRows → Type 0
StandBetween start end steps old new = steps ≡ slice_range new.operations start end

-- Each of the first rows of a list took the rows of the other pivots in whose columns it has ones, by the operations from its bound on and before the next.
pub record HaveTaken (lists : List (List ℕ)) (pivots : Pivots) (listed : List ℕ) (done : ℕ) (bounds : List ℕ) (state : RecordedRows) : Type 0 where
  pub many : done < length bounds
  pub ordered : (s : ℕ) → s < done → at bounds s ≤ at bounds (s + 1)
  pub within : (s : ℕ) → s < done → at bounds (s + 1) ≤ length state.operations
  pub taken : (s : ℕ) → s < done
      → TakesPivotsBy (StandBetween (at bounds s) (at bounds (s + 1))) pivots.rows pivots.order (at listed s) (ones_of lists (at listed s)) state state

-- each pivot's row has taken the rows of the pivots before it in whose columns it has ones
abbrev pub PivotsHaveTaken : List (List ℕ) → Pivots → List ℕ → RecordedRows → Type 0
PivotsHaveTaken lists pivots bounds state = HaveTaken lists pivots pivots.rows (length pivots.rows) bounds state

-- the first rows of a list were cleared
pub record HasClearedRows (lists : List (List ℕ)) (rows order listed : List ℕ) (done : ℕ) (m now : ℕ → ℕ → ℕ) : Type 0 where
  pub idle : (i k : ℕ) → ones_of lists i ≡ [] → now i k ≡ m i k
  -- where the pivots' rows have zeros each row stays as it was
  pub kept : (k : ℕ) → PivotsHaveZeros rows m k → (i : ℕ) → now i k ≡ m i k
  pub cleared : ((p : ℕ) → p < length rows → IsUncleared lists rows order m (at rows p))
      → (s : ℕ) → s < done → IsUncleared lists rows order m (at listed s) → IsCleared rows order now (at listed s)

-- the first rows of a list are cleared, and the rest are as they were
abbrev pub ClearsRows : List (List ℕ) → List ℕ → List ℕ → List ℕ → ℕ → RecordedRows → RecordedRows → Type 0
ClearsRows lists rows order listed done old new = TakesSteps Performs (IsFirstOf listed done) (HasClearedRows lists rows order listed done) old new

-- the rows of the pivots are cleared, and then those that are left
abbrev pub ClearsAllRows : List (List ℕ) → Pivots → List ℕ → RecordedRows → RecordedRows → Type 0
ClearsAllRows lists pivots left old new = ClearsRows lists pivots.rows pivots.order (pivots.rows ++ left) (length (pivots.rows ++ left)) old new
