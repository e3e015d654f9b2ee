-- What the loops keep in `pi_solver::second_phase::eliminate`.
use Rattle.std.proofs.Common.{◌≡◌, ◌+◌, ◌-◌, ◌*◌, ◌≤◌, length}
use Rattle.std.specs.List.Sorted.{IsPermutation}
use Rattle.rq_elimination.specs.OperationCounts.{additions, triangle}
use Rattle.rq_elimination.specs.RecordedRows.{ChangesRows}
use Rattle.rq_elimination.specs.RowSteps.{AreRows, IsEchelon}
use Rattle.rq_solver.proofs.pi_solver.second_phase.eliminate.Given as goal

abbrev pub invariant-loop-done : goal.invariant-loop-done
invariant-loop-done l = record {
  rows : IsPermutation l.fn.rows l.rows;
  are_rows : AreRows l.rows l.recorded.table;
  steps : ChangesRows l.fn.rows l.fn.recorded l.recorded;
  long : length l.rows ≡ length l.fn.rows;
  few : additions l.recorded.operations + triangle l.done ≤ additions l.fn.recorded.operations + l.done * (length l.fn.rows - 1);
  echelon : IsEchelon l.rows l.done l.recorded.table;
}
