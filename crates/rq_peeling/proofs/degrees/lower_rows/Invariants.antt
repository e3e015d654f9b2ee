-- What the loops keep in `degrees::lower_rows`.
use Rattle.std.proofs.Common.{◌≡◌, ◌+◌, ◌≤◌, length, take}
use Rattle.rq_peeling.specs.RowDegrees.{AreListed, LowersRows}
use Rattle.rq_peeling.proofs.degrees.lower_rows.Given as goal

abbrev pub invariant-loop-row : goal.invariant-loop-row
invariant-loop-row l = record {
  degrees_long : length l.degrees ≡ length l.fn.degrees;
  single_room : l.fn.singles.room ≤ l.singles.room + l.row-index;
  pair_room : l.fn.pairs.room ≤ l.pairs.room + l.row-index;
  lowered : LowersRows (take l.row-index l.rows) l.fn.degrees l.degrees;
  listed : AreListed l.degrees l.singles.rows l.pairs.rows;
}
