-- What the loops keep in `column_rows::count_columns`.
use Rattle.std.proofs.Common.{◌≡◌, ℕ, ◌+◌, ◌<◌, ◌==◌, count_by, length, take}
use Rattle.std.specs.List.{sum}
use Rattle.rq_algebra.specs.Systems.{at}
use Rattle.rq_peeling.proofs.column_rows.count_columns.Given as goal

abbrev pub invariant-loop-column : goal.invariant-loop-column
invariant-loop-column l = record {
  long : length l.counts ≡ length l.fn.counts;
  total : sum l.counts ≡ sum l.fn.counts + l.column-index;
  counted : (k : ℕ) → k < length l.fn.counts → at l.counts k ≡ at l.fn.counts k + count_by (λ column. column == k) (take l.column-index l.columns);
}
