-- What the loops keep in `pi_solver::first_phase::clear_hdpc::are_zeros_at_pivots`.
use Rattle.std.proofs.Common.{ℕ, ◌<◌, length}
use Rattle.rq_algebra.specs.Systems.{at}
use Rattle.rq_solver.specs.HdpcOctets.{HasZeros}
use Rattle.rq_solver.proofs.pi_solver.first_phase.clear_hdpc.are_zeros_at_pivots.Given as goal

abbrev pub invariant-loop-place : goal.invariant-loop-place
invariant-loop-place l = (p : ℕ) → p < l.place → HasZeros (at l.peeling.order p) (length l.hdpc.rows) l.hdpc
