-- What the loops keep in `degrees::list_rows`.
use Rattle.std.proofs.Common.{◌≡◌, ◌+◌, ◌<◌, ◌≤◌, ℕ, All, Contains, length}
use Rattle.rq_algebra.specs.Systems.{at}
use Rattle.rq_peeling.proofs.degrees.list_rows.Given as goal

abbrev pub invariant-loop-row : goal.invariant-loop-row
invariant-loop-row l = record {
  single_room : l.fn.singles.room ≤ l.singles.room + l.row;
  pair_room : l.fn.pairs.room ≤ l.pairs.room + l.row;
  singles_below : All (λ row. row < length l.degrees) l.singles.rows;
  pairs_below : All (λ row. row < length l.degrees) l.pairs.rows;
  single : (row : ℕ) → row < l.row → at l.degrees row ≡ 1 → Contains l.singles.rows row;
}
