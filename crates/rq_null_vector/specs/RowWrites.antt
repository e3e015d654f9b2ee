-- Rows of a matrix of octets that are those of a matrix of bits, or of octets.
use Rattle.std.specs.Prelude.{◌≡◌, ℕ, ◌<◌, length}
use Rattle.rq_standard.specs.BitTable.{BitTable}
use Rattle.rq_standard.specs.ConstraintMatrix.{with_octet_rows}
use Rattle.rq_parts.specs.DenseOctetMatrix.{OctetTable, entry_of, HasOctets}
use Rattle.rq_elimination.specs.LeadingRows.{HasLeading}

-- a row of a matrix of bits, whose first columns are those of LT symbols, can be copied to a table with as many rows and columns
pub record CanCopyRow (bits : BitTable) (row lt_columns : ℕ) (table : OctetTable) : Type 0 where
  pub lt_columns_are : lt_columns ≡ bits.boundary
  pub inside : row < bits.height
  pub height : length table.rows ≡ bits.height
  pub width : table.width ≡ bits.width
  pub octets : HasOctets table

-- all rows are those of a matrix of bits, but of octets in the places from `first` on
abbrev pub HoldsEquations : BitTable → OctetTable → ℕ → OctetTable → Type 0
HoldsEquations bits hdpc first table = HasLeading bits.height bits.width bits.height (with_octet_rows first (length hdpc.rows) bits.bit (entry_of hdpc)) table
