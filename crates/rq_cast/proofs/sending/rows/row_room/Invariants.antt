use Rattle.std.proofs.Common.{◌≡◌, length, map}
use Rattle.std.specs.Prelude.{vec_items}
use Rattle.rq_cast.specs.Rows.{AreRooms}
use Rattle.rq_cast.proofs.sending.rows.row_room.Given as goal

-- the rooms so far
abbrev pub invariant-loop-cell : goal.invariant-loop-cell
invariant-loop-cell l = record {
  count : length l.row.items ≡ l._cell;
  rooms : AreRooms l.key l.head (map vec_items l.row.items);
}
