-- What the loop keeps in `pi_solver::homogeneous_column::solve_pivot_rows`.
use Rattle.std.proofs.Common.{length}
use Rattle.rq_algebra.specs.Systems.{at, IsColumn}
use Rattle.rq_standard.specs.OctetField.{octets}
use Rattle.rq_solver.specs.HomogeneousColumns.{HasZerosAtPivots, SolvesLeftRows, SolvesPivotRows}
use Rattle.rq_solver.proofs.pi_solver.homogeneous_column.solve_pivot_rows.Given as goal

abbrev pub invariant-loop-pivot : goal.invariant-loop-pivot
invariant-loop-pivot l = record {
  elements : IsColumn octets (length l.peeled.peeling.places) (at l.column);
  left : SolvesLeftRows l.peeled.peeling l.left l.recorded.table l.column;
  zeros : HasZerosAtPivots l.peeled.peeling l.pivot l.column;
  solved : SolvesPivotRows l.peeled l.pivot l.column;
}
