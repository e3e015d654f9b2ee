-- What the loop keeps in `pi_solver::second_phase::take_ones`.
use Rattle.std.proofs.Common.{◌+◌, ◌-◌, ◌≤◌}
use Rattle.rq_algebra.specs.Systems.{at}
use Rattle.rq_parts.specs.DenseOctetMatrix.{entry_of}
use Rattle.rq_solver.specs.SecondPhase.{ClearsColumns, one_of}
use Rattle.rq_elimination.specs.OperationCounts.{additions, multiples}
use Rattle.rq_solver.proofs.pi_solver.second_phase.take_ones.Given as goal

abbrev pub invariant-loop-f : goal.invariant-loop-f
invariant-loop-f l = record {
  from : l.place + 1 ≤ l.from;
  within : l.from ≤ l.count;
  taken : ClearsColumns l.rows (at l.rows l.place) (l.place + 1) l.count l.from (λ f. one_of (entry_of l.fn.recorded.table (at l.rows l.place) f)) l.fn.recorded l.recorded;
  few : additions l.recorded.operations + multiples (entry_of l.fn.recorded.table (at l.rows l.place)) (l.place + 1) (l.from - (l.place + 1)) ≤ additions l.fn.recorded.operations + (l.from - (l.place + 1));
}

abbrev pub decreases-loop-f : goal.decreases-loop-f
decreases-loop-f l = l.count - l.from
