-- What the loops keep in `pi_solver::first_phase::inactive::fill_column`.
use Rattle.std.proofs.Common.{take}
use Rattle.rq_solver.specs.InactiveColumns.{FillsColumn}
use Rattle.rq_solver.proofs.pi_solver.first_phase.inactive.fill_column.Given as goal

abbrev pub invariant-loop-row : goal.invariant-loop-row
invariant-loop-row l = FillsColumn (take l.row-index l.rows) l.column l.fn.entries l.entries
