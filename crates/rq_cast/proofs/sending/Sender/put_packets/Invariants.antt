use Rattle.std.proofs.Common.{◌≡◌, ℕ, ◌+◌, ◌<◌, [], length, map, get_or}
use Rattle.std.specs.Prelude.{vec_items}
use Rattle.rq_cast.specs.Rows.{AreRooms, HasPacketOf}
use Rattle.rq_cast.specs.Sent.{sending_of}
use Rattle.rq_cast.proofs.sending.Sender.put_packets.Given as goal

-- the packets so far stand there
abbrev pub invariant-loop-cell : goal.invariant-loop-cell
invariant-loop-cell l = record {
  number : l.number ≡ l.first + l.cell-index;
  count : length l.cell-items ≡ length l.fn.row;
  rooms : AreRooms (sending_of l.self).key (sending_of l.self).head (map vec_items l.cell-items);
  packets : (j : ℕ) → j < l.cell-index → HasPacketOf (sending_of l.self) (l.first + j) (get_or (map vec_items l.cell-items) j []);
}
