-- The matrix of octets of the HDPC equations.
use Rattle.std.specs.Prelude.{◌≡◌, ℕ, ◌<◌, ◌≤◌, List, length, slice_index}
use Rattle.rq_parts.specs.DenseOctetMatrix.{OctetTable, row_at, entry_of}
use Rattle.rq_standard.specs.declared.row.TableRow.{TableRow}
use Rattle.rq_standard.specs.TableRows.{intermediate_symbols}
use Rattle.rq_standard.specs.Equations.{hdpc_coefficient}
use Rattle.rq_standard.specs.ConstraintMatrix.{AreHdpcRows}

-- `height` rows of `width` octets each
pub record HasShape (height width : ℕ) (table : OctetTable) : Type 0 where
  pub tall : length table.rows ≡ height
  pub wide : table.width ≡ width
  pub full : (i : ℕ) → i < height → length (row_at table i) ≡ width

-- the HDPC rows, H rows of L octets
pub record IsHdpcPart (row : TableRow) (table : OctetTable) : Type 0 where
  pub shape : HasShape row.hdpc_symbols (intermediate_symbols row) table
  pub rows : AreHdpcRows row (entry_of table)

-- the columns from `start` on are those of the HDPC rows
pub record IsFilledFrom (row : TableRow) (start : ℕ) (table : OctetTable) : Type 0 where
  pub shape : HasShape row.hdpc_symbols (intermediate_symbols row) table
  pub columns : (i k : ℕ) → i < row.hdpc_symbols → start ≤ k → k < intermediate_symbols row → entry_of table i k ≡ hdpc_coefficient row i k

-- the first octets of a list are a column of the HDPC rows
pub record IsHdpcColumn (row : TableRow) (column : ℕ) (octets : List ℕ) : Type 0 where
  pub long : row.hdpc_symbols ≤ length octets
  pub each : (i : ℕ) → i < row.hdpc_symbols → slice_index octets i ≡ hdpc_coefficient row i column
