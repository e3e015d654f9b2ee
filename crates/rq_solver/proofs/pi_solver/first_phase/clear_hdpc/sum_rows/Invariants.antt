-- What the loops keep in `pi_solver::first_phase::clear_hdpc::sum_rows`.
use Rattle.std.proofs.Common.{◌≡◌, ℕ, ◌+◌, ◌-◌, ◌<◌, ◌≤◌, length}
use Rattle.rq_algebra.specs.Systems.{sum_below}
use Rattle.rq_standard.specs.OctetField.{octets}
use Rattle.rq_parts.specs.DenseOctetMatrix.{entry_of, HasOctets}
use Rattle.rq_elimination.specs.OperationCounts.{additions}
use Rattle.rq_solver.specs.HdpcOctets.{CombinesOctets}
use Rattle.rq_solver.proofs.pi_solver.first_phase.clear_hdpc.sum_rows.Given as goal

abbrev pub invariant-loop-row : goal.invariant-loop-row
invariant-loop-row l = record {
  few : additions l.recorded.operations ≤ additions l.fn.recorded.operations + (l.row - 1);
  width : l.rows.width ≡ l.fn.rows.width;
  height : length l.rows.rows ≡ length l.fn.rows.rows;
  are_octets : HasOctets l.rows;
  sum : (k : ℕ) → k < l.fn.rows.width → entry_of l.rows 0 k ≡ sum_below octets l.row (λ i. entry_of l.fn.rows i k);
  others : (i k : ℕ) → 0 < i → i < length l.fn.rows.rows → k < l.fn.rows.width → entry_of l.rows i k ≡ entry_of l.fn.rows i k;
  combined : CombinesOctets l.first_hdpc (length l.fn.rows.rows) l.fn.rows.width (entry_of l.fn.rows) (entry_of l.rows) l.fn.recorded l.recorded;
}
