-- What the loops keep in `pi_solver::first_phase::clear_hdpc::end_of_pivots`.
use Rattle.std.proofs.Common.{ℕ, ◌<◌, ◌≤◌, length}
use Rattle.rq_algebra.specs.Systems.{at}
use Rattle.rq_solver.proofs.pi_solver.first_phase.clear_hdpc.end_of_pivots.Given as goal

abbrev pub invariant-loop-column : goal.invariant-loop-column
invariant-loop-column l = record {
  within : l.end ≤ l.column;
  last : (k : ℕ) → l.end ≤ k → k < l.column → length l.peeling.rows ≤ at l.peeling.places k;
}
