-- What the loops keep in `column_rows::place_row`.
use Rattle.std.proofs.Common.{◌≡◌, ℕ, ◌+◌, ◌<◌, ◌≤◌, ◌==◌, ◌++◌, All, List, count_by, length, replicate, take}
use Rattle.rq_algebra.specs.Systems.{at}
use Rattle.rq_peeling.specs.ColumnRows.{HasPlaced}
use Rattle.rq_peeling.proofs.column_rows.place_row.Given as goal

abbrev pub invariant-loop-column : goal.invariant-loop-column
invariant-loop-column l = record {
  long : length l.starts ≡ length l.fn.starts;
  wide : length l.rows ≡ length l.fn.rows;
  left : (k : ℕ) → k < length l.fn.starts → at l.starts k + count_by (λ column. column == k) (take l.column-index l.columns) ≡ at l.fn.starts k;
  below : (height : ℕ) → l.row < height → All (λ r. r < height) l.fn.rows → All (λ r. r < height) l.rows;
  placed : (counts : List ℕ) (done : ℕ → List ℕ) → HasPlaced counts done l.fn.starts l.fn.rows → ((k : ℕ) → k < length counts → length (done k) + count_by (λ column. column == k) l.columns ≤ at counts k)
      → HasPlaced counts (λ k. replicate (count_by (λ column. column == k) (take l.column-index l.columns)) l.row ++ done k) l.starts l.rows;
}
