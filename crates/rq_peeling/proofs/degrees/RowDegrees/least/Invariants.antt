-- What the loops keep in `degrees::RowDegrees::least`.
use Rattle.std.proofs.Common.{◌≡◌, ℕ, ◌<◌}
use Rattle.rq_algebra.specs.Systems.{at}
use Rattle.rq_peeling.specs.RowDegrees.{HasLeastOnes}
use Rattle.rq_peeling.proofs.degrees.RowDegrees.least.Given as goal

abbrev pub invariant-loop-row : goal.invariant-loop-row
invariant-loop-row l = record {
  none : l.least ≡ 0 → (i : ℕ) → i < l.row → at l.self i ≡ 0;
  found : 0 < l.least → HasLeastOnes (at l.self) 0 l.row (l.row_found, l.least);
}
