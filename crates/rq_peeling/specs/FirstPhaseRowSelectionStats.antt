-- What callers see of the counts by which the first phase takes its rows (RFC 6330, section 5.4.2.2).
use Rattle.std.specs.Prelude.{◌≡◌, ◌≢◌, ℕ, ◌<◌, ◌≤◌, List, length, slice_index}
use Rattle.rq_standard.specs.BitTable.{BitTable, IsBitTable}
use Rattle.rq_standard.specs.BitTableSteps.{HasSameShape, ones_between}

-- The columns that are left, those from `start_col` on and before `end_col`; the first row that is left, and how many ones each row has in
-- these columns, as far as rows are left.
pub record RowCounts : Type 0 where
  pub start_row : ℕ
  pub start_col : ℕ
  pub end_col : ℕ
  pub ones : List ℕ

-- a matrix has the rows and columns that are left, none of them dense
pub record IsLeftOf (m : BitTable) (counts : RowCounts) : Type 0 where
  pub rows : length counts.ones ≤ m.height
  pub columns : counts.start_col ≤ counts.end_col
  pub before : counts.end_col ≤ m.boundary

-- how many ones a row of it has there
abbrev pub ones_in_range : BitTable → RowCounts → ℕ → ℕ
ones_in_range m counts i = ones_between (m.bit i) counts.start_col counts.end_col

-- from a first row on, as far as row n, these are the numbers of the rows' ones in a range of columns
abbrev pub CountsFrom : BitTable → ℕ → ℕ → ℕ → ℕ → List ℕ → Type 0
CountsFrom m start_col end_col first n counts = (i : ℕ) → first ≤ i → i < n → slice_index counts i ≡ ones_between (m.bit i) start_col end_col

-- the counts are those of a matrix
pub record CountsOnes (m : BitTable) (counts : RowCounts) : Type 0 where
  pub left : IsLeftOf m counts
  pub counted : (i : ℕ) → counts.start_row ≤ i → i < length counts.ones → slice_index counts.ones i ≡ ones_in_range m counts i

-- where the old counts are those of a matrix, the new ones are those of any matrix that such a change makes of it
abbrev pub KeepsCounts : (BitTable → BitTable → Type 0) → RowCounts → RowCounts → Type 0
KeepsCounts Change old new = (m n : BitTable) → IsBitTable m → CountsOnes m old → Change m n → CountsOnes n new

-- one row may be another
pub record ChangesRow (row : ℕ) (old new : BitTable) : Type 0 where
  pub shape : HasSameShape old new
  pub other_rows : (i k : ℕ) → i < old.height → k < old.width → i ≢ row → new.bit i k ≡ old.bit i k

-- these rows and columns are left
pub record HasLeft (start_row end_row start_col end_col : ℕ) (counts : RowCounts) : Type 0 where
  pub first_row : counts.start_row ≡ start_row
  pub rows : length counts.ones ≡ end_row
  pub first_column : counts.start_col ≡ start_col
  pub columns : counts.end_col ≡ end_col
