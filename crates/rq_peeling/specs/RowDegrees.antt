-- How many active columns rows have, while pivots are chosen.
use Rattle.std.specs.Prelude.{◌≡◌, ◌≢◌, ℕ, ◌-◌, ◌<◌, ◌≤◌, ◌==◌, ◌&&◌, ◌∷◌, ◌++◌, ◌⊎◌, [], Bool, true, List, All, Contains, count_by, length, nat_le, nat_lt, sum_by, take}
use Rattle.rq_algebra.specs.Systems.{at}
use Rattle.rq_peeling.specs.SystemRows.{one_in}
use Rattle.rq_peeling.specs.ColumnState.{ColumnState}
use Rattle.rq_peeling.specs.RowOnes.{ones_of}

-- of the rows from `start_row` on and before `end_row` this one has the least number of ones that isn't 0
pub record HasLeastOnes (ones : ℕ → ℕ) (start_row end_row : ℕ) (found : ℕ × ℕ) : Type 0 where
  pub from : start_row ≤ found.0
  pub below : found.0 < end_row
  pub count : ones found.0 ≡ found.1
  pub some : 0 < found.1
  pub least : (i : ℕ) → start_row ≤ i → i < end_row → 0 < ones i → found.1 ≤ ones i

-- of all degrees that aren't 0 a row has the least
abbrev pub HasLeastDegree : List ℕ → ℕ → Type 0
HasLeastDegree degrees row = HasLeastOnes (at degrees) 0 (length degrees) (row, at degrees row)

-- for each row how many of its ones stand in columns of LT symbols, which are the first
abbrev pub CountsBefore : ℕ → List (List ℕ) → List ℕ → Type 0
CountsBefore lt_columns lists degrees = (row : ℕ) → row < length lists → at degrees row ≡ count_by (λ column. nat_lt column lt_columns) (ones_of lists row)

-- no row has this degree
abbrev pub NoneHas : ℕ → List ℕ → Type 0
NoneHas degree degrees = (row : ℕ) → row < length degrees → at degrees row ≢ degree

-- a column isn't inactive from the start, and none of the rows that were taken has a one in it
abbrev pub is_left : List (List ℕ) → ℕ → List ℕ → ℕ → Bool
is_left lists lt_columns taken k = nat_lt k lt_columns && (sum_by (λ r. one_in lists r k) taken == 0)

-- how many ones a row has in such columns
abbrev pub ones_left : List (List ℕ) → ℕ → List ℕ → ℕ → ℕ
ones_left lists lt_columns taken row = count_by (is_left lists lt_columns taken) (ones_of lists row)

-- of the rows that have ones in the columns that are left, this one has the fewest there
pub record HasFewestLeft (lists : List (List ℕ)) (lt_columns : ℕ) (taken : List ℕ) (row : ℕ) : Type 0 where
  pub some : 0 < ones_left lists lt_columns taken row
  pub least : (r : ℕ) → r < length lists → 0 < ones_left lists lt_columns taken r → ones_left lists lt_columns taken row ≤ ones_left lists lt_columns taken r

-- each row that was taken had the fewest ones in the columns that were left by those before it
abbrev pub TakesFewestLeft : List (List ℕ) → ℕ → List ℕ → Type 0
TakesFewestLeft lists lt_columns taken = (p : ℕ) → p < length taken → HasFewestLeft lists lt_columns (take p taken) (at taken p)

-- each had, and in the columns that are left now no row has a one
pub record TakesFewest (lists : List (List ℕ)) (lt_columns : ℕ) (taken : List ℕ) : Type 0 where
  pub each : TakesFewestLeft lists lt_columns taken
  pub last : (r : ℕ) → r < length lists → ones_left lists lt_columns taken r ≡ 0

-- each row that was taken has its pivot in a column that was left by those before it
abbrev pub TakesColumnsLeft : List (List ℕ) → ℕ → List ℕ → List ℕ → Type 0
TakesColumnsLeft lists lt_columns taken order = (p : ℕ) → p < length taken → is_left lists lt_columns (take p taken) (at order p) ≡ true

-- whether a column is active, and how many of a row's ones stand in such columns
abbrev pub is_active : ColumnState → ℕ → Bool
is_active state k = nat_le state.pivots (at state.places k) && nat_lt (at state.places k) state.end

abbrev pub active_ones : ColumnState → List ℕ → ℕ
active_ones state row = count_by (is_active state) row

-- for each row how many of its ones stand in active columns
abbrev pub CountsActive : List (List ℕ) → ColumnState → List ℕ → Type 0
CountsActive lists state degrees = (row : ℕ) → row < length lists → at degrees row ≡ active_ones state (ones_of lists row)

-- where the degrees were the numbers of rows' ones in active columns, they are so again
abbrev pub KeepsDegrees : List (List ℕ) → ColumnState → ColumnState → List ℕ → List ℕ → Type 0
KeepsDegrees lists old new was now = CountsActive lists old was → CountsActive lists new now

-- each row has degree 0
abbrev pub AllHaveNone : List ℕ → Type 0
AllHaveNone degrees = (row : ℕ) → row < length degrees → at degrees row ≡ 0

-- each row has one less for each time that it is among these rows
abbrev pub LowersRows : List ℕ → List ℕ → List ℕ → Type 0
LowersRows rows old new = (row : ℕ) → row < length old → at new row ≡ at old row - count_by (λ r. r == row) rows

-- rows that are listed, and for how many more there is room
pub record ListedRows : Type 0 where
  pub rows : List ℕ
  pub room : ℕ

-- rows of these degrees are listed, and the first list has each that has degree 1
pub record AreListed (degrees singles pairs : List ℕ) : Type 0 where
  pub singles_below : All (λ row. row < length degrees) singles
  pub pairs_below : All (λ row. row < length degrees) pairs
  pub single : (row : ℕ) → row < length degrees → at degrees row ≡ 1 → Contains singles row

-- a row is listed behind others, or they are left as they were
abbrev pub MayAdd : ℕ → List ℕ → List ℕ → Type 0
MayAdd row old new = (new ≡ old) ⊎ (new ≡ old ++ row ∷ [])
