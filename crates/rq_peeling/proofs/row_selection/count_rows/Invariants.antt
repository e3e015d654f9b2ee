-- What the loop keeps in `row_selection::count_rows`.
use Rattle.std.proofs.Common.{◌≡◌, ℕ, ◌<◌, ◌≤◌, get_or}
use Rattle.rq_standard.specs.BitTableSteps.{ones_between}
use Rattle.rq_peeling.proofs.row_selection.count_rows.Given as goal

abbrev pub invariant-loop-row : goal.invariant-loop-row
invariant-loop-row g l = (i : ℕ) → l.first ≤ i → i < l.row → get_or l.ones_per_row i 0 ≡ ones_between ((g.T.BinaryMatrix.content l.matrix).bit i) l.start_col l.end_col
