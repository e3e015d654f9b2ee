-- What the loop keeps in `pi_solver::homogeneous_column::sum_behind`.
use Rattle.std.proofs.Common.{◌≡◌}
use Rattle.rq_algebra.specs.Systems.{dot}
use Rattle.rq_standard.specs.OctetField.{octets}
use Rattle.rq_parts.specs.DenseOctetMatrix.{entry_of}
use Rattle.rq_solver.specs.HomogeneousColumns.{inactive_entry}
use Rattle.rq_solver.proofs.pi_solver.homogeneous_column.sum_behind.Given as goal

abbrev pub invariant-loop-f : goal.invariant-loop-f
invariant-loop-f l = l.sum ≡ dot octets l.f (entry_of l.recorded.table l.row) (inactive_entry l.peeled.peeling l.column)
