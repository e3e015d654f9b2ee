-- What the loops keep in `pi_solver::second_phase::clear_below`.
use Rattle.std.proofs.Common.{◌+◌, ◌≤◌}
use Rattle.rq_elimination.specs.OperationCounts.{additions}
use Rattle.rq_elimination.specs.RecordedRows.{ChangesRows}
use Rattle.rq_elimination.specs.RowSteps.{ClearsBelow}
use Rattle.rq_solver.proofs.pi_solver.second_phase.clear_below.Given as goal

abbrev pub invariant-loop-i : goal.invariant-loop-i
invariant-loop-i l = record {
  steps : ChangesRows l.rows l.fn.recorded l.recorded;
  cleared : ClearsBelow l.rows l.pivot l.i l.fn.recorded.table l.recorded.table;
  few : additions l.recorded.operations + (l.pivot + 1) ≤ additions l.fn.recorded.operations + l.i;
}
