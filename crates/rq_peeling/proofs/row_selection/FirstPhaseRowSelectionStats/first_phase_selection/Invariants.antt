-- What the loop keeps in `row_selection::FirstPhaseRowSelectionStats::first_phase_selection`.
use Rattle.std.proofs.Common.{◌≡◌, ℕ, ◌<◌, ◌≤◌, get_or}
use Rattle.rq_peeling.specs.RowDegrees.{HasLeastOnes}
use Rattle.rq_peeling.proofs.row_selection.FirstPhaseRowSelectionStats.first_phase_selection.Given as goal

abbrev pub invariant-loop-row : goal.invariant-loop-row
invariant-loop-row g l = record {
  none : l.least ≡ 0 → (i : ℕ) → l.start_row ≤ i → i < l.row → get_or l.self.ones i 0 ≡ 0;
  found : 0 < l.least → HasLeastOnes (λ i. get_or l.self.ones i 0) l.start_row l.row (l.row_found, l.least);
}
