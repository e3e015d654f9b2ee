-- What the loop keeps in `pi_solver::fourth_phase::clear_inactive_of_row`.
use Rattle.std.proofs.Common.{◌+◌, ◌*◌, ◌≤◌, min}
use Rattle.rq_parts.specs.DenseOctetMatrix.{entry_of}
use Rattle.rq_solver.specs.SecondPhase.{ClearsColumns}
use Rattle.rq_elimination.specs.OperationCounts.{additions}
use Rattle.rq_solver.proofs.pi_solver.fourth_phase.clear_inactive_of_row.Given as goal

abbrev pub invariant-loop-word : goal.invariant-loop-word
invariant-loop-word l = record {
  taken : ClearsColumns l.inactive_rows l.row 0 l.inactive (min l.inactive (64 * l.word)) (entry_of l.fn.recorded.table l.row) l.fn.recorded l.recorded;
  few : additions l.recorded.operations ≤ additions l.fn.recorded.operations + min l.inactive (64 * l.word);
}
