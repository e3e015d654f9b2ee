-- What the loops keep in `column_rows::ColumnRows::of_rows`.
use Rattle.std.proofs.Common.{◌≡◌, ℕ, ◌<◌, All, List, length}
use Rattle.rq_peeling.specs.ColumnRows.{AreEnds, HasPlaced, rows_with}
use Rattle.rq_peeling.proofs.column_rows.ColumnRows.of_rows.Given as goal

abbrev pub invariant-loop-row : goal.invariant-loop-row
invariant-loop-row l = record {
  long : length l.starts.items ≡ l.width;
  below : All (λ r. r < length l.ones) l.rows.items;
  placed : (counts : List ℕ) → AreEnds l.ones counts l.initial.starts.items → HasPlaced counts (λ k. rows_with l.ones k l.row) l.starts.items l.rows.items;
}
