-- What the loops keep in `pi_solver::fourth_phase::take_octets`.
use Rattle.std.proofs.Common.{◌+◌, ◌-◌, ◌≤◌}
use Rattle.rq_parts.specs.DenseOctetMatrix.{entry_of}
use Rattle.rq_solver.specs.SecondPhase.{ClearsColumns}
use Rattle.rq_elimination.specs.OperationCounts.{additions}
use Rattle.rq_solver.proofs.pi_solver.fourth_phase.take_octets.Given as goal

abbrev pub invariant-loop-column : goal.invariant-loop-column
invariant-loop-column l = record {
  from : l.start ≤ l.from;
  within : l.from ≤ l.end;
  taken : ClearsColumns l.inactive_rows l.row l.start l.end l.from (entry_of l.fn.recorded.table l.row) l.fn.recorded l.recorded;
  few : additions l.recorded.operations ≤ additions l.fn.recorded.operations + (l.from - l.start);
}

abbrev pub decreases-loop-column : goal.decreases-loop-column
decreases-loop-column l = l.end - l.from
