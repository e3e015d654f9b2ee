-- What is found of a system is found of the bits and octets that it was made of.
use Rattle.std.proofs.Common.{◌≡◌, ◌<◌, ℕ, List, Option, None, Some, length, arith}
use Rattle.std.specs.Prelude.{IfSome, Vec}
use Rattle.std.specs.Global.{Global}
use Rattle.rq_algebra.specs.Operations.{Operation}
use Rattle.rq_algebra.specs.Systems.{IsHomogeneousColumn}
use Rattle.rq_algebra.proofs.Solutions.{homogeneous_column_same}
use Rattle.rq_standard.specs.BitTable.{BitTable}
use Rattle.rq_standard.specs.ConstraintMatrix.{with_octet_rows}
use Rattle.rq_standard.specs.OctetField.{octets}
use Rattle.rq_parts.specs.DenseOctetMatrix.{OctetTable, entry_of}
use Rattle.rq_peeling.specs.SystemRows.{one_in}
use Rattle.rq_solver.specs.Phases.{ShowsSystem, SolvesSystem, SolvesRows}
use Rattle.rq_peeling.specs.System.{IsSystemOf, rows_of_system}
use Rattle.rq_peeling.specs.declared.system.System.{System}
use Rattle.rq_solver.proofs.OctetRows.{with_octet_rows-same}
use Rattle.rq_elimination.proofs.RowStepLaws.{SameEntries}
use Rattle.rq_solver.proofs.SolutionLaws.{finds_same, homogeneous_same}

module _ (bits : BitTable) (hdpc : OctetTable) (first : ℕ) (system : System) (is : IsSystemOf bits hdpc first system) where
  same_entries : SameEntries (length system.ones) system.width (rows_of_system system) (with_octet_rows system.first_hdpc (length system.hdpc.rows) bits.bit (entry_of system.hdpc))
  same_entries =
      with_octet_rows-same system.first_hdpc (length system.hdpc.rows) (entry_of system.hdpc) (length system.ones) system.width (one_in system.ones) bits.bit
      (λ i k l m. (is.ones_are.each i (rw is.ones_are.count at l)).once k (omega arith) (rw is.width_is at m))

  pub rows_of_bits : (i k : ℕ) → i < bits.height → k < bits.width → rows_of_system system i k ≡ with_octet_rows first (length hdpc.rows) bits.bit (entry_of hdpc) i k
  rows_of_bits i k l m = rw (← is.hdpc_is, ← is.first_is) (same_entries i k (rw is.ones_are.count l) (rw is.width_is m))

  -- what is found of a system is found of the bits and the octets that it was made of
  pub attempt_of_bits : (answer : Option (List Operation)) → SolvesSystem system answer
      → SolvesRows bits.height bits.width (with_octet_rows first (length hdpc.rows) bits.bit (entry_of hdpc)) answer
  attempt_of_bits None found = rw (← is.hdpc_is, ← is.first_is, ← is.width_is, ← is.ones_are.count) (homogeneous_same octets (length system.ones) system.width _ _ same_entries found)
  attempt_of_bits (Some operations) found = rw (← is.hdpc_is, ← is.first_is, ← is.width_is, ← is.ones_are.count) (finds_same octets (length system.ones) system.width _ _ same_entries operations found)

  pub shown_of_bits : (column : Option (Vec ℕ Global)) → IfSome column (λ shown. ShowsSystem system shown.items)
      → IfSome column (λ shown. IsHomogeneousColumn octets bits.height bits.width
      (with_octet_rows first (length hdpc.rows) bits.bit (entry_of hdpc)) shown.items)
  shown_of_bits None shown = tt
  shown_of_bits (Some column) shown =
      rw (← is.hdpc_is, ← is.first_is, ← is.width_is, ← is.ones_are.count)
      (homogeneous_column_same octets (length system.ones) system.width _ _ same_entries column.items shown)
