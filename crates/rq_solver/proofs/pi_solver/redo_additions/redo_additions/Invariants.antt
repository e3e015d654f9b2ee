-- What the loop keeps in `pi_solver::redo_additions::redo_additions`.
use Rattle.std.proofs.Common.{◌+◌, ◌-◌, ◌≤◌}
use Rattle.std.specs.List.{slice_range}
use Rattle.rq_elimination.specs.OperationCounts.{additions}
use Rattle.rq_solver.proofs.pi_solver.redo_additions.redo_additions.Given as goal

abbrev pub invariant-loop-place : goal.invariant-loop-place
invariant-loop-place g l = record {
  from : l.start ≤ l.place;
  again : g.R.Redo.done (slice_range l.fn.recorded.operations l.start l.place) l.fn.recorded l.recorded;
  few : additions l.recorded.operations ≤ additions l.fn.recorded.operations + (l.place - l.start);
}
