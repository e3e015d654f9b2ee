-- What the loops keep in `pi_solver::first_phase::clear_bits::take_pivots`.
use Rattle.std.proofs.Common.{ℕ, ◌+◌, ◌≤◌, length, take}
use Rattle.rq_algebra.specs.Systems.{at}
use Rattle.rq_solver.specs.PivotAdditions.{TakesPivots}
use Rattle.rq_elimination.specs.OperationCounts.{additions}
use Rattle.rq_solver.proofs.CountLaws.{HasMet}
use Rattle.rq_solver.proofs.pi_solver.first_phase.clear_bits.take_pivots.Given as goal

abbrev pub invariant-loop-column : goal.invariant-loop-column
invariant-loop-column l = record {
  taken : TakesPivots l.peeling.rows l.peeling.order l.row (take l.column-index l.column-items) l.fn.recorded l.recorded;
  few : (n : ℕ) × HasMet (length l.peeling.rows) (λ q. at l.peeling.places (at l.column-items q)) l.column-index n × (additions l.recorded.operations ≤ additions l.fn.recorded.operations + n);
}
