-- What the loops keep in `pi_solver::first_phase::inactive::fill_inactive`.
use Rattle.std.proofs.Common.{length}
use Rattle.rq_elimination.specs.LeadingRows.{HasLeading}
use Rattle.rq_solver.proofs.InactiveFilling.{rows_so_far}
use Rattle.rq_solver.proofs.pi_solver.first_phase.inactive.fill_inactive.Given as goal

abbrev pub invariant-loop-from : goal.invariant-loop-from
invariant-loop-from l = HasLeading (length l.system.ones) l.inactive (length l.system.ones) (rows_so_far l.system.ones l.system.first_hdpc l.system.hdpc l.peeling.order (length l.peeling.rows) l.from) l.entries
