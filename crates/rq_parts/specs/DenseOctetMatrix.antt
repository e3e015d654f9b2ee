-- What callers see of a matrix of octets.
use Rattle.std.specs.Prelude.{◌≡◌, ◌<◌, ℕ, List, [], All, length, map, slice_set, slice_index, slice_index_or, take, drop, ◌++◌}
use Rattle.std.specs.List.{swap}
use Rattle.rq_algebra.specs.Systems.{HasElements}
use Rattle.rq_standard.specs.OctetField.{octets}
use Rattle.rq_standard.specs.Rows.{row_sum, row_multiple}
use Rattle.rq_bytes.specs.Ranges.{range_of, with_range}

-- its rows, and how many octets each has
pub record OctetTable : Type 0 where
  pub width : ℕ
  pub rows : List (List ℕ)

abbrev pub row_at : OctetTable → ℕ → List ℕ
row_at table i = slice_index_or table.rows i []

-- the octet in row i and column k
abbrev pub entry_of : OctetTable → ℕ → ℕ → ℕ
entry_of table i k = slice_index (row_at table i) k

-- a row of `width` octets
abbrev pub IsOctetRow : ℕ → List ℕ → Type 0
IsOctetRow width row = (length row ≡ width) × All (λ octet. octet < 256) row

-- its rows are octets, as many as it is wide
pub record HasOctets (table : OctetTable) : Type 0 where
  pub widths : All (λ row. length row ≡ table.width) table.rows
  pub elements : HasElements octets (length table.rows) table.width (entry_of table)

-- another row in the place of row i
abbrev pub with_row : OctetTable → ℕ → List ℕ → OctetTable
with_row table i row = record table { rows = slice_set table.rows i row }

-- a row with a multiple of others added from column `start` on
abbrev pub sum_from : List ℕ → ℕ → ℕ → List ℕ → List ℕ
sum_from row start scalar other = with_range row start (row_sum (range_of row start (length other)) (row_multiple scalar other))

-- the rows from row `start` on with columns i and j exchanged
abbrev pub columns_swapped : ℕ → ℕ → ℕ → List (List ℕ) → List (List ℕ)
columns_swapped start i j rows = take start rows ++ map (λ row. swap row i j) (drop start rows)
