-- The second phase: rows that have no pivot yet are brought into echelon form, and then substituted back.
use Rattle.std.specs.Prelude.{◌≡◌, ℕ, ◌+◌, ◌-◌, ◌*◌, ◌<◌, ◌≤◌, ◌==◌, if◌then◌else◌, Bool, List, MatchBool}
use Rattle.rq_algebra.specs.Systems.{at}
use Rattle.rq_parts.specs.DenseOctetMatrix.{OctetTable, entry_of}
use Rattle.rq_elimination.specs.OperationCounts.{additions, multiples, triangle}
use Rattle.rq_elimination.specs.RecordedRows.{Records}
use Rattle.rq_elimination.specs.RowSteps.{IsEchelon, IsStuck}
use Rattle.rq_elimination.specs.declared.recorded.RecordedRows.{RecordedRows}
use Rattle.rq_solver.specs.TakenSteps.{IsFirstOf, TakesSteps}

-- ---- forward

-- the first `count` columns have pivots, or one of them has none
abbrev pub EndsForward : List ℕ → ℕ → RecordedRows → Bool → Type 0
EndsForward rows count state found = MatchBool found (IsEchelon rows count state.table) (IsStuck rows count state.table)

-- each of `count` pivots' rows is added to the rows behind it at most
abbrev pub AddsForward : ℕ → ℕ → RecordedRows → RecordedRows → Bool → Type 0
AddsForward rows count old new found =
    MatchBool found
    (additions new.operations + triangle count ≤ additions old.operations + count * (rows - 1))
    (additions new.operations ≤ additions old.operations + count * (rows - 1))

-- ---- rows that take others, each of which has 1 in its own inactive column

-- in the inactive columns each of these rows, from place `start` on, has 1 in its own, and 0 in the others
abbrev pub AreUnits : List ℕ → ℕ → ℕ → (ℕ → ℕ) → (ℕ → ℕ → ℕ) → Type 0
AreUnits inactive_rows start count column m = (t f : ℕ) → start ≤ t → t < count → f < count → m (at inactive_rows t) (column f) ≡ (if t == f then 1 else 0)

-- the table shows what these rows have in the inactive columns
abbrev pub ShowInactive : List ℕ → ℕ → (ℕ → ℕ) → (ℕ → ℕ → ℕ) → OctetTable → Type 0
ShowInactive inactive_rows count column m table = (t f : ℕ) → t < count → f < count → m (at inactive_rows t) (column f) ≡ entry_of table (at inactive_rows t) f

-- A row takes multiples of rows with inactive columns' pivots, those from place `start` on, so that it gets 0 in their inactive columns that come before column
-- `done`, where it has these entries: `column f` is the place of inactive column f.
pub record HasClearedColumns (inactive_rows : List ℕ) (row start count done : ℕ) (entries : ℕ → ℕ) (m now : ℕ → ℕ → ℕ) : Type 0 where
  pub kept : (k : ℕ) → ((f : ℕ) → start ≤ f → f < count → m (at inactive_rows f) k ≡ 0) → now row k ≡ m row k
  pub cleared : (column : ℕ → ℕ) → AreUnits inactive_rows start count column m → ((f : ℕ) → start ≤ f → f < count → m row (column f) ≡ entries f)
      → (f : ℕ) → start ≤ f → f < done → f < count → now row (column f) ≡ 0
  pub rest : (column : ℕ → ℕ) → AreUnits inactive_rows start count column m → (f : ℕ) → done ≤ f → f < count → now row (column f) ≡ m row (column f)

abbrev pub ClearsColumns : List ℕ → ℕ → ℕ → ℕ → ℕ → (ℕ → ℕ) → RecordedRows → RecordedRows → Type 0
ClearsColumns inactive_rows row start count done entries old new =
    TakesSteps Records (λ r. r ≡ row) (HasClearedColumns inactive_rows row start count done entries) old new

-- a row takes multiples of all of the first `count` rows, so that it gets 0 in their columns
abbrev pub TakesAll : List ℕ → ℕ → ℕ → (ℕ → ℕ) → RecordedRows → RecordedRows → Type 0
TakesAll inactive_rows count row entries old new = ClearsColumns inactive_rows row 0 count count entries old new

-- a row takes multiples of the rows at these places, so that it gets 0 in their columns
abbrev pub TakesBetween : List ℕ → ℕ → ℕ → ℕ → RecordedRows → RecordedRows → Type 0
TakesBetween inactive_rows row start end old new = ClearsColumns inactive_rows row start end end (entry_of old.table row) old new

-- ---- back

-- 1 stays, and any other octet is 0
abbrev pub one_of : ℕ → ℕ
one_of entry = if entry == 1 then 1 else 0

-- the row at a place takes those behind it in whose columns it has 1
abbrev pub TakesOnesBehind : List ℕ → ℕ → ℕ → RecordedRows → RecordedRows → Type 0
TakesOnesBehind rows place count old new =
    ClearsColumns rows (at rows place) (place + 1) count count (λ f. one_of (entry_of old.table (at rows place) f)) old new

-- at most one addition for each place behind, and none for an entry that takes a multiple
abbrev pub AddsOnes : List ℕ → ℕ → ℕ → RecordedRows → RecordedRows → Type 0
AddsOnes rows place count old new =
    additions new.operations + multiples (entry_of old.table (at rows place)) (place + 1) (count - (place + 1))
    ≤ additions old.operations + (count - (place + 1))

-- Of the first rows those whose entry in the column of the row at a place is neither 0 nor 1 take that multiple of it. Where it is 1 they then
-- have 0, and where it is 0 they stay.
pub record HasGivenMultiples (inactive_rows : List ℕ) (place done : ℕ) (table : OctetTable) (m now : ℕ → ℕ → ℕ) : Type 0 where
  pub kept : (r k : ℕ) → m (at inactive_rows place) k ≡ 0 → now r k ≡ m r k
  pub given : (k q : ℕ) → m (at inactive_rows place) k ≡ 1 → q < done → m (at inactive_rows q) k ≡ entry_of table (at inactive_rows q) place
      → now (at inactive_rows q) k ≡ one_of (entry_of table (at inactive_rows q) place)

abbrev pub GivesMultiples : List ℕ → ℕ → ℕ → RecordedRows → RecordedRows → Type 0
GivesMultiples inactive_rows place done old new =
    TakesSteps Records (IsFirstOf inactive_rows done) (HasGivenMultiples inactive_rows place done old.table) old new

-- where the table has 1 in an inactive column from place `low` on, the rows before that place have 1 there, and else 0
abbrev pub ShowOnes : List ℕ → ℕ → ℕ → (ℕ → ℕ) → (ℕ → ℕ → ℕ) → OctetTable → Type 0
ShowOnes inactive_rows low count column m table =
    (t f : ℕ) → t < low → low ≤ f → f < count → m (at inactive_rows t) (column f) ≡ one_of (entry_of table (at inactive_rows t) f)

-- The rows in echelon form have 1 in their own inactive column alone, from the last up to place `low`. Those before it took the multiples of
-- these rows by which they had an octet other than 0 and 1 in their columns.
pub record HasSubstituted (inactive_rows : List ℕ) (count low : ℕ) (table : OctetTable) (m now : ℕ → ℕ → ℕ) : Type 0 where
  pub kept : (r k : ℕ) → ((f : ℕ) → f < count → m (at inactive_rows f) k ≡ 0) → now r k ≡ m r k
  pub units : (column : ℕ → ℕ) → ShowInactive inactive_rows count column m table → AreUnits inactive_rows low count column now
  pub before : (column : ℕ → ℕ) → ShowInactive inactive_rows count column m table → ShowInactive inactive_rows low column now table
  pub left : (column : ℕ → ℕ) → ShowInactive inactive_rows count column m table → ShowOnes inactive_rows low count column now table

abbrev pub SubstitutesBack : List ℕ → ℕ → ℕ → RecordedRows → RecordedRows → Type 0
SubstitutesBack inactive_rows count low old new = TakesSteps Records (IsFirstOf inactive_rows count) (HasSubstituted inactive_rows count low old.table) old new
