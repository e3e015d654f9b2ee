-- The equations of a block as the phases take them.
use Rattle.std.specs.Prelude.{◌≡◌, ℕ}
use Rattle.rq_standard.specs.BitTable.{BitTable}
use Rattle.rq_parts.specs.DenseOctetMatrix.{OctetTable}
use Rattle.rq_peeling.specs.SystemRows.{system_rows}
use Rattle.rq_peeling.specs.RowOnes.{AreOnesOfRows}
use Rattle.rq_peeling.specs.declared.system.System.{System}

-- what its rows are: bits, but from row `first_hdpc` on octets
abbrev pub rows_of_system : System → ℕ → ℕ → ℕ
rows_of_system system = system_rows system.ones system.first_hdpc system.hdpc

-- the system of these bits, with the HDPC rows in the places from row `first` on
pub record IsSystemOf (bits : BitTable) (hdpc : OctetTable) (first : ℕ) (system : System) : Type 0 where
  pub width_is : system.width ≡ bits.width
  pub lt_columns_are : system.lt_columns ≡ bits.boundary
  pub ones_are : AreOnesOfRows bits.height bits.width bits.bit system.ones
  pub hdpc_is : system.hdpc ≡ hdpc
  pub first_is : system.first_hdpc ≡ first
