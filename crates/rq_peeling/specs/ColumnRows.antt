-- The rows that have ones in a column, for each column.
use Rattle.std.specs.Prelude.{◌≡◌, ℕ, zero, suc, ◌+◌, ◌<◌, ◌≤◌, ◌==◌, List, [], ◌++◌, count_by, length, min, replicate, slice_index_or, slice_range, sum, sum_by, take}
use Rattle.rq_algebra.specs.Systems.{at}
use Rattle.rq_peeling.specs.SystemRows.{one_in}

-- how many rows there are, and for each column rows that have ones in it
pub record ColumnLists : Type 0 where
  pub height : ℕ
  pub lists : List (List ℕ)

-- the rows from a column's start to the next one, or to the end
abbrev pub rows_of_column : List ℕ → List ℕ → ℕ → List ℕ
rows_of_column starts rows k =
    let end = min (slice_index_or starts (k + 1) (length rows)) (length rows) in
    slice_range rows (min (at starts k) end) end

-- of the first n rows those that have a one in column k, once for each, the last first
abbrev pub rows_with : List (List ℕ) → ℕ → ℕ → List ℕ
rows_with lists k zero = []
rows_with lists k (suc n) = replicate (one_in lists n k) n ++ rows_with lists k n

-- for each column all rows that have a one in it
abbrev pub ListsColumns : List (List ℕ) → ColumnLists → Type 0
ListsColumns lists columns = (k : ℕ) → k < length columns.lists → slice_index_or columns.lists k [] ≡ rows_with lists k (length lists)

-- how many ones rows have in each column, and where the ones of each column end where all stand column by column
pub record AreEnds (lists : List (List ℕ)) (counts ends : List ℕ) : Type 0 where
  pub long : length ends ≡ length counts
  pub counted : (k : ℕ) → k < length counts → at counts k ≡ sum_by (count_by (λ column. column == k)) lists
  pub sums : (k : ℕ) → k < length counts → at ends k ≡ sum (take (k + 1) counts)
  pub all : sum counts ≡ sum_by length lists

-- of rows that are put column by column, before those of a column that are there, these are there
pub record HasPlaced (counts : List ℕ) (done : ℕ → List ℕ) (starts rows : List ℕ) : Type 0 where
  pub long : length starts ≡ length counts
  pub wide : length rows ≡ sum counts
  pub start : (k : ℕ) → k < length counts → at starts k + length (done k) ≡ sum (take (k + 1) counts)
  pub room : (k : ℕ) → k < length counts → length (done k) ≤ at counts k
  pub here : (k j : ℕ) → k < length counts → j < length (done k) → at rows (at starts k + j) ≡ at (done k) j

-- how many of a row's columns are column k
abbrev pub times_listed : List ℕ → ℕ → ℕ
times_listed columns k = count_by (λ column. column == k) columns

-- a row is put before those that are there of its columns, where these have room for it
abbrev pub PlacesRow : ℕ → List ℕ → List ℕ → List ℕ → List ℕ → List ℕ → Type 0
PlacesRow row columns old_starts old_rows starts rows =
    (counts : List ℕ) (done : ℕ → List ℕ)
    → HasPlaced counts done old_starts old_rows → ((k : ℕ) → k < length counts → length (done k) + times_listed columns k ≤ at counts k)
    → HasPlaced counts (λ k. replicate (times_listed columns k) row ++ done k) starts rows
