-- HDPC rows whose octets are cleared in the pivots' columns, all of them together.
use Rattle.std.specs.Prelude.{◌≡◌, ◌≢◌, ℕ, ◌+◌, ◌-◌, ◌*◌, ◌^◌, ◌<◌, ◌≤◌, ◌==◌, if◌then◌else◌, nat_lt, List, length}
use Rattle.rq_algebra.specs.Systems.{at, sum_below}
use Rattle.rq_standard.specs.OctetField.{octets}
use Rattle.rq_parts.specs.DenseOctetMatrix.{OctetTable, entry_of}
use Rattle.rq_solver.specs.PivotAdditions.{IsCleared, PivotsHaveZeros}
use Rattle.rq_matrix.specs.Orders.{IsOrderOf}
use Rattle.rq_peeling.specs.Peeling.{Pivots}
use Rattle.rq_elimination.specs.RecordedRows.{Performs}
use Rattle.rq_elimination.specs.declared.recorded.RecordedRows.{RecordedRows}
use Rattle.rq_elimination.specs.RowSteps.{AreRows}
use Rattle.rq_elimination.specs.HdpcRows.{HdpcTable, octet_in}
use Rattle.rq_solver.specs.TakenSteps.{TakesSteps}

-- ---- what the rows have

-- these octets from a column on, and zeros before it
abbrev pub octets_from : ℕ → (ℕ → ℕ → ℕ) → ℕ → ℕ → ℕ
octets_from column octet i k = if nat_lt k column then 0 else octet i k

-- these octets, but zeros in a column of the first rows
abbrev pub with_zeros : ℕ → ℕ → (ℕ → ℕ → ℕ) → ℕ → ℕ → ℕ
with_zeros column done octet i k = if nat_lt i done then (if k == column then 0 else octet i k) else octet i k

-- the first row became the sum of all, and the others are as they were
pub record SumsRows (was now : OctetTable) : Type 0 where
  pub sum : (k : ℕ) → k < was.width → entry_of now 0 k ≡ sum_below octets (length was.rows) (λ i. entry_of was i k)
  pub others : (i k : ℕ) → 0 < i → i < length was.rows → k < was.width → entry_of now i k ≡ entry_of was i k

-- in a column the first row has 1, and the others have 0
pub record IsFirstAlone (column : ℕ) (hdpc : HdpcTable) : Type 0 where
  pub one : octet_in hdpc 0 column ≡ 1
  pub zeros : (i : ℕ) → 0 < i → i < length hdpc.table.rows → octet_in hdpc i column ≡ 0

-- the first rows have 0 in a column
abbrev pub HasZeros : ℕ → ℕ → OctetTable → Type 0
HasZeros column done table = (i : ℕ) → i < done → entry_of table i column ≡ 0

-- ---- where they stand

-- `count` HDPC rows stand in a table from row `first` on
pub record AreOctetsIn (first count : ℕ) (state : RecordedRows) : Type 0 where
  pub within : first + count ≤ length state.table.rows
  pub fits : first + count < 2 ^ 64

-- HDPC rows stand from row `first` on, and there is room for what they have in a column of theirs
pub record AreReadable (first column : ℕ) (hdpc : HdpcTable) (column_octets : List ℕ) (state : RecordedRows) : Type 0 where
  pub rows : AreOctetsIn first (length hdpc.table.rows) state
  pub some : 0 < length hdpc.table.rows
  pub in_width : column < hdpc.table.width
  pub lanes : length column_octets ≡ length hdpc.factors

-- the pivots are those of other rows
pub record HasPivotsBeside (rows order places : List ℕ) (first count width : ℕ) (state : RecordedRows) : Type 0 where
  pub columns : IsOrderOf width order places
  pub few : length rows ≤ width
  pub pivots : AreRows rows state.table
  pub apart : (i p : ℕ) → i < count → p < length rows → first + i ≢ at rows p

-- ---- steps

-- how many additions clear `count` HDPC rows in the columns of `pivots` pivots at most, among `width` columns
abbrev pub hdpc_bound : ℕ → ℕ → ℕ → ℕ
hdpc_bound count width pivots = (count - 1) * (1 + width) + count * pivots

-- each pivot's column has one 1 among the pivots' rows, in its own
abbrev pub PivotsAreCleared : List ℕ → List ℕ → (ℕ → ℕ → ℕ) → Type 0
PivotsAreCleared rows order m = (p : ℕ) → p < length rows → IsCleared rows order m (at rows p)

-- the HDPC rows of a system have these octets in the pivots' columns
abbrev pub ShowHdpcOctets : List ℕ → List ℕ → ℕ → ℕ → (ℕ → ℕ → ℕ) → (ℕ → ℕ → ℕ) → Type 0
ShowHdpcOctets rows order first count octet m = (i p : ℕ) → i < count → p < length rows → m (first + i) (at order p) ≡ octet i (at order p)

-- `count` rows from row `first` on have 0 in a column
abbrev pub HaveZeros : ℕ → ℕ → (ℕ → ℕ → ℕ) → ℕ → Type 0
HaveZeros first count m k = (i : ℕ) → i < count → m (first + i) k ≡ 0

-- one of `count` rows from row `first` on
abbrev pub IsRowFrom : ℕ → ℕ → ℕ → Type 0
IsRowFrom first count r = (i : ℕ) × (i < count) × (first + i ≡ r)

-- a column of the HDPC rows that was one of these columns is the new one
pub record HasCombined (first count width : ℕ) (was now m after : ℕ → ℕ → ℕ) : Type 0 where
  pub shown : (l k : ℕ) → k < width → ((i : ℕ) → i < count → m (first + i) l ≡ was i k) → (i : ℕ) → i < count → after (first + i) l ≡ now i k
  pub kept : (k : ℕ) → HaveZeros first count m k → HaveZeros first count after k

-- steps among the HDPC rows were done, and were recorded
abbrev pub CombinesOctets : ℕ → ℕ → ℕ → (ℕ → ℕ → ℕ) → (ℕ → ℕ → ℕ) → RecordedRows → RecordedRows → Type 0
CombinesOctets first count width was now old new = TakesSteps Performs (IsRowFrom first count) (HasCombined first count width was now) old new

-- where the pivots' rows are cleared, and HDPC rows had these octets in the pivots' columns, they have the new ones
pub record HasChanged (rows order : List ℕ) (first count : ℕ) (was now m after : ℕ → ℕ → ℕ) : Type 0 where
  pub shown : PivotsAreCleared rows order m → ShowHdpcOctets rows order first count was m → ShowHdpcOctets rows order first count now after
  pub kept : (k : ℕ) → PivotsHaveZeros rows m k → HaveZeros first count m k → HaveZeros first count after k

-- the HDPC rows took one another and rows of pivots, and that was recorded
abbrev pub ChangesOctets : List ℕ → List ℕ → ℕ → ℕ → (ℕ → ℕ → ℕ) → (ℕ → ℕ → ℕ) → RecordedRows → RecordedRows → Type 0
ChangesOctets rows order first count was now old new = TakesSteps Performs (IsRowFrom first count) (HasChanged rows order first count was now) old new

-- ---- steps among the HDPC rows

-- the pivots are those of other rows than the HDPC rows, which stand from row `first` on
abbrev pub StandsBeside : Pivots → ℕ → OctetTable → RecordedRows → Type 0
StandsBeside peeling first hdpc state = HasPivotsBeside peeling.rows peeling.order peeling.places first (length hdpc.rows) hdpc.width state

-- from this column on the octets show what steps among the rows did, and they show nothing of the columns before
abbrev pub CombinesFrom : ℕ → ℕ → HdpcTable → HdpcTable → RecordedRows → RecordedRows → Type 0
CombinesFrom column first was now old new =
    CombinesOctets first (length was.table.rows) was.table.width (octets_from column (octet_in was)) (octets_from column (octet_in now)) old new

-- the rows had 0 in the pivots' columns before this one, and have 0 in this one too, if it has a pivot
abbrev pub ClearsPivotColumn : Pivots → ℕ → ℕ → HdpcTable → HdpcTable → RecordedRows → RecordedRows → Type 0
ClearsPivotColumn peeling column first was now old new =
    ChangesOctets peeling.rows peeling.order first (length was.table.rows) (octets_from column (octet_in was)) (octets_from (column + 1) (octet_in now)) old new

-- the first row of HDPC rows takes the others
abbrev pub CombinesTables : ℕ → OctetTable → OctetTable → RecordedRows → RecordedRows → Type 0
CombinesTables first was now old new = CombinesOctets first (length was.rows) was.width (entry_of was) (entry_of now) old new

-- the rows have 0 in the column of the pivot at a place
abbrev pub ClearsOwnColumn : Pivots → ℕ → ℕ → HdpcTable → RecordedRows → RecordedRows → Type 0
ClearsOwnColumn peeling place first hdpc old new = ClearsPivotColumn peeling (at peeling.order place) first hdpc hdpc old new

-- a column is inactive
abbrev pub HasNoPivot : Pivots → ℕ → Type 0
HasNoPivot peeling column = length peeling.rows ≤ at peeling.places column

-- ---- all steps

-- the HDPC rows of a system, which have these octets in the pivots' columns, get 0 there
abbrev pub ClearsOctets : List ℕ → List ℕ → (ℕ → ℕ → ℕ) → ℕ → ℕ → RecordedRows → RecordedRows → Type 0
ClearsOctets rows order octet first count old new = ChangesOctets rows order first count octet (λ i k. 0) old new
