-- What the loop keeps in `pi_solver::second_phase::give_multiples`.
use Rattle.std.proofs.Common.{◌+◌, ◌≤◌}
use Rattle.rq_algebra.specs.Systems.{at}
use Rattle.rq_parts.specs.DenseOctetMatrix.{entry_of}
use Rattle.rq_solver.specs.SecondPhase.{GivesMultiples}
use Rattle.rq_elimination.specs.OperationCounts.{additions, multiples}
use Rattle.rq_solver.proofs.pi_solver.second_phase.give_multiples.Given as goal

abbrev pub invariant-loop-i : goal.invariant-loop-i
invariant-loop-i l = record {
  given : GivesMultiples l.rows l.place l.i l.fn.recorded l.recorded;
  few : additions l.recorded.operations ≤ additions l.fn.recorded.operations + multiples (λ i. entry_of l.fn.recorded.table (at l.rows i) l.place) 0 l.i;
}
