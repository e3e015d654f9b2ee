-- What the loop keeps in `pi_solver::homogeneous_column::solve_left_rows`.
use Rattle.std.proofs.Common.{◌-◌}
use Rattle.rq_solver.proofs.SetColumns.{SolvesBehind}
use Rattle.rq_solver.proofs.pi_solver.homogeneous_column.solve_left_rows.Given as goal

abbrev pub invariant-loop-done : goal.invariant-loop-done
invariant-loop-done l = SolvesBehind l.peeled l.left l.recorded.table l.free (l.free - l.done) l.column
