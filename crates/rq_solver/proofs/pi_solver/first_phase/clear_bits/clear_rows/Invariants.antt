-- What the loop keeps in `pi_solver::first_phase::clear_bits::clear_rows`.
use Rattle.std.proofs.Common.{◌≡◌, ◌+◌, ◌*◌, ◌≤◌, [], ◌∷◌, ◌++◌, length}
use Rattle.rq_solver.specs.PivotAdditions.{ClearsRows, HaveTaken}
use Rattle.rq_elimination.specs.OperationCounts.{additions}
use Rattle.rq_solver.proofs.pi_solver.first_phase.clear_bits.clear_rows.Given as goal

abbrev pub invariant-loop-place : goal.invariant-loop-place
invariant-loop-place l = record {
  cleared : ClearsRows l.ones l.peeling.rows l.peeling.order (l.peeling.rows ++ l.left) l.place l.fn.recorded l.recorded;
  few : additions l.recorded.operations ≤ additions l.fn.recorded.operations + l.place * length l.peeling.rows;
  long : length l.bounds.items ≡ l.place;
  taken : HaveTaken l.ones l.peeling (l.peeling.rows ++ l.left) l.place (l.bounds.items ++ length l.recorded.operations ∷ []) l.recorded;
}
