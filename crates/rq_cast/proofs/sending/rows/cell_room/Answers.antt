use Rattle.std.proofs.Common.{◌≡◌, ◌-◌, ◌++◌, length, take, replicate, sym, ap, ◌∙◌, rules}
use Rattle.rq_base.proofs.Accepted.{same_ok}
use Rattle.rq_cells.specs.Cells.{head_bytes}
use Rattle.rq_cast.proofs.SentCells.{room_behind}
use Rattle.rq_cast.proofs.sending.rows.cell_room.Goals as goal

pub returns-clause-room : goal.returns-clause-room
returns-clause-room c =
    let key = c.args.key.now in
    let h = c.args.head in
    let room = c.in_ok-room.room in
    let size = c.cell_length.result in
    let streamed : length h.stream ≡ 8 = search rules in
    let named : length h.name ≡ 16 = search rules in
    room_behind key h room.items c.resize.new.self.items size (sym (same_ok (head_bytes key h) room.items c.in_ok-room.ensures)) streamed named c.cell_length.ensures
    (c.in_ok-resize.ensures.items ∙ ap (λ n. take size room.items ++ replicate (size - n) 0) room.ok.0)
