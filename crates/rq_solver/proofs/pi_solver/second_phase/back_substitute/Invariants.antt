-- What the loops keep in `pi_solver::second_phase::back_substitute`.
use Rattle.std.proofs.Common.{◌+◌, ◌-◌, ◌≤◌}
use Rattle.rq_algebra.specs.Systems.{at}
use Rattle.rq_parts.specs.DenseOctetMatrix.{entry_of}
use Rattle.rq_solver.specs.SecondPhase.{SubstitutesBack}
use Rattle.rq_elimination.specs.OperationCounts.{additions, triangle}
use Rattle.rq_solver.proofs.CountLaws.{given_before}
use Rattle.rq_solver.proofs.pi_solver.second_phase.back_substitute.Given as goal

abbrev pub invariant-loop-done : goal.invariant-loop-done
invariant-loop-done l = record {
  reduced : SubstitutesBack l.rows l.count (l.count - l.done) l.fn.recorded l.recorded;
  few : additions l.recorded.operations ≤ additions l.fn.recorded.operations + triangle l.done + given_before (λ i. entry_of l.fn.recorded.table (at l.rows i)) (l.count - l.done) l.done (l.count - l.done);
}
