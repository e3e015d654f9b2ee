-- What the loops keep in `pi_solver::first_phase::inactive::fill_columns`.
use Rattle.std.proofs.Common.{◌≡◌, ℕ, ◌+◌, ◌<◌, ◌≤◌, length}
use Rattle.rq_algebra.specs.Systems.{at}
use Rattle.rq_parts.specs.DenseOctetMatrix.{entry_of, HasOctets}
use Rattle.rq_peeling.specs.SystemRows.{one_in}
use Rattle.rq_solver.proofs.pi_solver.first_phase.inactive.fill_columns.Given as goal

abbrev pub invariant-loop-f : goal.invariant-loop-f
invariant-loop-f l = record {
  height : length l.entries.rows ≡ length l.system.ones;
  wide : l.inactive ≤ l.entries.width;
  octets : HasOctets l.entries;
  filled : (i k : ℕ) → i < length l.system.ones → k < l.f → k < l.inactive → entry_of l.entries i k ≡ one_in l.system.ones i (at l.peeling.order (length l.peeling.rows + k));
  left : (i k : ℕ) → i < length l.system.ones → l.f ≤ k → k < l.inactive → entry_of l.entries i k ≡ 0;
}
