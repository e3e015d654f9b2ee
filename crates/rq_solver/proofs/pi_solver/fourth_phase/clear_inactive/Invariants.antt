-- What the loop keeps in `pi_solver::fourth_phase::clear_inactive`.
use Rattle.std.proofs.Common.{◌+◌, ◌*◌, ◌≤◌}
use Rattle.rq_elimination.specs.OperationCounts.{additions}
use Rattle.rq_solver.specs.FourthPhase.{FinishesPivots}
use Rattle.rq_solver.specs.Peeled.{inactive_count}
use Rattle.rq_solver.proofs.pi_solver.fourth_phase.clear_inactive.Given as goal

abbrev pub invariant-loop-place : goal.invariant-loop-place
invariant-loop-place l = record {
  finished : FinishesPivots l.peeled l.left l.sparse l.place l.fn.recorded l.recorded;
  few : additions l.recorded.operations ≤ additions l.fn.recorded.operations + l.place * (inactive_count l.peeled.peeling + l.peeled.sparsify_limit);
}
