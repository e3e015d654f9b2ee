-- What the loops keep in `pi_solver::first_phase::clear_hdpc::is_zero_column`.
use Rattle.rq_solver.specs.HdpcOctets.{HasZeros}
use Rattle.rq_solver.proofs.pi_solver.first_phase.clear_hdpc.is_zero_column.Given as goal

abbrev pub invariant-loop-row : goal.invariant-loop-row
invariant-loop-row l = HasZeros l.column l.row l.octets
