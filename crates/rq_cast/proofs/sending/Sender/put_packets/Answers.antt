use Rattle.std.proofs.Common.{◌≡◌, ℕ, ◌+◌, ◌<◌, [], length, map, get_or, sym, subst, ◌∙◌, arith, rules}
use Rattle.std.specs.Prelude.{vec_items}
use Rattle.std.proofs.lemmas.List.{length-set, length-map}
use Rattle.std.proofs.lemmas.List.Elements.{All-set}
use Rattle.rq_cast.specs.Rows.{AreRooms, HasPacket, HasPacketOf}
use Rattle.rq_cast.specs.Sent.{sending_of, sent_id}
use Rattle.rq_cast.specs.Writing.{IsRoom}
use Rattle.rq_cast.proofs.RowCells.{items_after, at_cell, set_below}
use Rattle.rq_cast.proofs.sending.Sender.put_packets.Goals as goal

pub put_packet-requires-clause-room : goal.put_packet-requires-clause-room
put_packet-requires-clause-room c =
    let s = sending_of c.args.self.now in
    let below : c.loop-cell.cell-index < length c.loop-cell.cell-items = omega (arith, c.loop-cell-test.true, c.loop-cell.invariant.count) in
    subst (IsRoom s.key s.head) (sym c.as_mut_slice.ensures.value)
    (at_cell (IsRoom s.key s.head) c.loop-cell.cell-items c.loop-cell.cell-index c.cell-item.result below c.loop-cell.invariant.rooms)

pub loop-cell-preserved : goal.loop-cell-preserved
loop-cell-preserved c =
    let s = sending_of c.args.self.now in
    let items = c.loop-cell.cell-items in
    let n = c.loop-cell.cell-index in
    let kept = c.loop-cell.invariant in
    let v = get_or items n c.cell-item.result in
    let new = c.put_packet.new.cell in
    let long : length new ≡ v.len = search rules in
    let is = items_after items n v new long in
    let below : n < length (map vec_items items) = omega (arith, c.loop-cell-test.true, kept.count, length-map items vec_items) in
    record {
      number = omega (arith, kept.number);
      count = length-set items n _ ∙ kept.count;
      rooms = subst (AreRooms s.key s.head) (sym is) (All-set (IsRoom s.key s.head) (map vec_items items) n new c.put_packet.ensures.room kept.rooms);
      packets = subst (λ cells. (j : ℕ) → j < n + 1 → HasPacketOf s (c.args.first + j) (get_or cells j [])) (sym is)
          (set_below (λ j cell. HasPacketOf s (c.args.first + j) cell) (map vec_items items) n new below kept.packets
          (subst (λ i. HasPacketOf s i new) kept.number
          (subst (λ b. HasPacket s.encoded b (sent_id s c.loop-cell.number).esi new) c.place-block.ensures.block
          (subst (λ e. HasPacket s.encoded c.place-block.result.0 e new) c.place-block.ensures.id c.put_packet.ensures.packet))));
    }
