-- Columns that solve rows with all values zero, and an elimination that looks for one.
use Rattle.std.specs.Prelude.{◌≡◌, ℕ, ◌<◌, ◌≤◌, List, length, Option, MatchOption, Vec}
use Rattle.std.specs.Global.{Global}
use Rattle.rq_algebra.specs.Steps.{SameSolutions}
use Rattle.rq_algebra.specs.Systems.{at, IsDetermined, IsHomogeneousColumn}
use Rattle.rq_standard.specs.BitTable.{BitTable}
use Rattle.rq_standard.specs.ConstraintMatrix.{with_octet_rows}
use Rattle.rq_standard.specs.OctetField.{octets}
use Rattle.rq_parts.specs.DenseOctetMatrix.{OctetTable, entry_of, HasOctets}
use Rattle.rq_null_vector.specs.Reduced.{IsReduced}

-- octets, not all of them zero, that solve the rows with all values zero, and none where only zeros do
abbrev pub ShowsHomogeneous : ℕ → ℕ → (ℕ → ℕ → ℕ) → Option (Vec ℕ Global) → Type 0
ShowsHomogeneous height width rows answer =
    MatchOption answer (IsDetermined octets height width rows) (λ column. IsHomogeneousColumn octets height width rows column.items)

-- A homogeneous column is shown, or that there is none, for the rows of a matrix of bits, with those of a matrix of octets in the
-- places from `first` on.
abbrev pub ShowsHomogeneousRows : BitTable → OctetTable → ℕ → Option (Vec ℕ Global) → Type 0
ShowsHomogeneousRows bits octet_rows first =
    ShowsHomogeneous bits.height bits.width (with_octet_rows first (length octet_rows.rows) bits.bit (entry_of octet_rows))

-- with all values zero the rows of both tables have the same solutions
pub record KeepsZeros (old new : OctetTable) : Type 0 where
  pub width : new.width ≡ old.width
  pub height : length new.rows ≡ length old.rows
  pub octets_are : HasOctets new
  pub same : SameSolutions octets (length old.rows) old.width (entry_of old) (λ _. 0) (entry_of new) (λ _. 0)

-- the first rows have pivots in the columns before this one, and the others have 0 in it
pub record LacksPivot (rows : List ℕ) (column : ℕ) (table : OctetTable) : Type 0 where
  pub below : column < table.width
  pub reduced : IsReduced rows 0 column table
  pub empty : (i : ℕ) → column ≤ i → i < length rows → entry_of table (at rows i) column ≡ 0
