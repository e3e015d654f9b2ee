-- The rows of a system: bits, but octets in the HDPC rows.
use Rattle.std.specs.Prelude.{◌≡◌, ℕ, ◌+◌, ◌<◌, ◌≤◌, ◌==◌, List, [], All, count_by, length}
use Rattle.rq_standard.specs.ConstraintMatrix.{with_octet_rows}
use Rattle.rq_parts.specs.DenseOctetMatrix.{OctetTable, entry_of}
use Rattle.rq_peeling.specs.RowOnes.{ones_of}

-- how often a row of bits has a one in column k
abbrev pub one_in : List (List ℕ) → ℕ → ℕ → ℕ
one_in lists i k = count_by (λ column. column == k) (ones_of lists i)

-- the ones of rows stand in columns below the width, and at most once in each
pub record AreRowsOfBits (width : ℕ) (lists : List (List ℕ)) : Type 0 where
  pub within : (i : ℕ) → i < length lists → All (λ column. column < width) (ones_of lists i)
  pub once : (i k : ℕ) → i < length lists → k < width → one_in lists i k ≤ 1

-- HDPC rows, which have the places of rows without ones
pub record AreOctetRows (lists : List (List ℕ)) (first width : ℕ) (hdpc : OctetTable) : Type 0 where
  pub width_is : hdpc.width ≡ width
  pub within : first + length hdpc.rows ≤ length lists
  pub empty : (i : ℕ) → i < length hdpc.rows → ones_of lists (first + i) ≡ []

-- the rows of bits, but from row `first` on those of octets
abbrev pub system_rows : List (List ℕ) → ℕ → OctetTable → ℕ → ℕ → ℕ
system_rows lists first hdpc = with_octet_rows first (length hdpc.rows) (one_in lists) (entry_of hdpc)
