-- The stored rows of a sparse matrix of bits, and what is read from them.
use Rattle.std.specs.Prelude.{◌≡◌, ℕ, ◌<◌, ◌++◌, List, [], All, length, map, filter, slice_index, slice_index_or}
use Rattle.std.specs.List.Sorted.{IsStrictlyIncreasing}
use Rattle.rq_standard.specs.BitTableSteps.{ArePlacesOfOnes}
use Rattle.rq_parts.specs.BitPairs.{in_range}
use Rattle.rq_parts.specs.SparseBinaryVec.{listed_bit}
use Rattle.rq_parts.specs.ImmutableListMap.{Pairs}

-- a stored row: its ones ascend, and each is one of the stored columns, those below `columns`
pub record IsSparseRow (columns : ℕ) (row : List ℕ) : Type 0 where
  pub rises : IsStrictlyIncreasing row
  pub below : All (λ one. one < columns) row

-- for each stored column, those below `columns`, the stored rows that have a one there
pub record IsColumnIndex (columns : ℕ) (rows : List (List ℕ)) (lists : List (List ℕ)) : Type 0 where
  pub count : length lists ≡ columns
  pub each : (column : ℕ) → column < columns
      → ArePlacesOfOnes (λ row. listed_bit (slice_index_or rows row []) column) 0 (length rows) (slice_index_or lists column [])

-- behind pairs of a column and a row, a row with each of the columns listed
abbrev pub AddsRowPairs : Pairs → ℕ → List ℕ → Pairs → Type 0
AddsRowPairs old row columns new = new ≡ record old { pairs = old.pairs ++ map (λ column. (column, row)) columns }

-- the places at which the rows listed stand, as far as they lie in a range
abbrev pub places_between : List ℕ → List ℕ → ℕ → ℕ → List ℕ
places_between rows places start end = filter (in_range start end) (map (slice_index places) rows)
