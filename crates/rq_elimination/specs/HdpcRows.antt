-- What HDPC rows have in the columns that weren't worked on yet, all of them together.
use Rattle.std.specs.Prelude.{◌≡◌, ℕ, ◌%◌, ◌<◌, ◌≤◌, ◌==◌, if◌then◌else◌, List, length}
use Rattle.rq_algebra.specs.Systems.{at}
use Rattle.rq_standard.specs.OctetField.{octets}
use Rattle.rq_parts.specs.DenseOctetMatrix.{OctetTable, entry_of, HasOctets}

-- The rows' sum, in the first row of a table, and the other rows in theirs. A row became its own octets and its factor times the sum; the first
-- has no octets of its own.
pub record HdpcTable : Type 0 where
  pub table : OctetTable
  pub factors : List ℕ

-- each row has a factor, and there may be more, which fill whole vectors
pub record IsHdpcTable (hdpc : HdpcTable) : Type 0 where
  pub count : length hdpc.table.rows ≤ length hdpc.factors
  pub whole : length hdpc.factors % 32 ≡ 0
  pub octets : HasOctets hdpc.table

-- what row i of them has in column k
abbrev pub octet_in : HdpcTable → ℕ → ℕ → ℕ
octet_in hdpc i k = octets.add (if i == 0 then 0 else entry_of hdpc.table i k) (octets.mul (at hdpc.factors i) (entry_of hdpc.table 0 k))

-- octets that all rows but the first have in a column, from a row on
abbrev pub AreInColumn : HdpcTable → ℕ → ℕ → List ℕ → Type 0
AreInColumn hdpc column from column_octets = (i : ℕ) → from ≤ i → i < length hdpc.table.rows → at column_octets i ≡ octet_in hdpc i column
