-- What the loops keep in `pi_solver::third_phase::sparsify_rows`.
use Rattle.std.proofs.Common.{◌≡◌, ℕ, ◌+◌, ◌-◌, ◌*◌, ◌<◌, ◌≤◌, true, false, get_or, length}
use Rattle.rq_algebra.specs.Systems.{at}
use Rattle.rq_solver.specs.ThirdPhase.{Sparsifies}
use Rattle.rq_elimination.specs.OperationCounts.{additions}
use Rattle.rq_solver.proofs.pi_solver.third_phase.sparsify_rows.Given as goal

abbrev pub invariant-loop-done : goal.invariant-loop-done
invariant-loop-done l = record {
  taken : Sparsifies l.peeled l.sparse (length l.peeled.peeling.rows - l.done) l.fn.recorded l.recorded;
  short : (p : ℕ) → length l.peeled.peeling.rows - l.done ≤ p → p < length l.peeled.peeling.rows → get_or l.sparse p false ≡ true
      → at l.peeled.bounds.items (p + 1) - at l.peeled.bounds.items p ≤ l.peeled.sparsify_limit;
  few : additions l.recorded.operations ≤ additions l.fn.recorded.operations + l.done * l.peeled.sparsify_limit;
}
