use Rattle.std.proofs.Common.{◌≡◌, ℕ, ◌+◌, ◌<◌, ◌≤◌, [], length, map, get_or}
use Rattle.std.specs.Prelude.{vec_items}
use Rattle.rq_cast.specs.Rows.{AreRooms, HavePackets, AreSymbolDigests}
use Rattle.rq_cast.specs.Sent.{sending_of, IsSentCell}
use Rattle.rq_cast.proofs.sending.Sender.put_checks.Given as goal

-- the cells so far are whole, and the others as they were
abbrev pub invariant-loop-cell : goal.invariant-loop-cell
invariant-loop-cell l = record {
  number : l.number ≡ l.cell-index;
  count : length l.cell-items ≡ length l.fn.row;
  rooms : AreRooms (sending_of l.self).key (sending_of l.self).head (map vec_items l.cell-items);
  others : (j : ℕ) → l.cell-index ≤ j → get_or (map vec_items l.cell-items) j [] ≡ get_or (map vec_items l.fn.row) j [];
  whole : (first : ℕ) → HavePackets (sending_of l.self) first (map vec_items l.fn.row)
      → AreSymbolDigests (sending_of l.self).encoded (map vec_items l.fn.row) l.digests
      → (j : ℕ) → j < l.cell-index → IsSentCell (sending_of l.self) (first + j) (get_or (map vec_items l.cell-items) j []);
}
