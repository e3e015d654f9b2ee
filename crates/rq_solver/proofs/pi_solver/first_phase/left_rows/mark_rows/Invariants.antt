-- What the loop keeps in `pi_solver::first_phase::left_rows::mark_rows`.
use Rattle.std.proofs.Common.{◌≡◌, ℕ, ◌<◌, true, false, take, slice_index_or, Contains}
use Rattle.rq_algebra.specs.Systems.{at}
use Rattle.rq_solver.proofs.pi_solver.first_phase.left_rows.mark_rows.Given as goal

abbrev pub invariant-loop-row : goal.invariant-loop-row
invariant-loop-row l = record {
  marked : (p : ℕ) → p < l.row-index → slice_index_or l.marks (at l.rows p) false ≡ true;
  has : (r : ℕ) → slice_index_or l.marks r false ≡ true → Contains (take l.row-index l.rows) r;
}
