use Rattle.std.proofs.Common.{◌≡◌, ◌-◌, ◌++◌, length, take, drop, length-drop, sym, ap, ◌∙◌, subst, arith}
use Rattle.rq_standard.specs.Configuration.{Configuration}
use Rattle.rq_standard.specs.Streams.{frame_size}
use Rattle.rq_cells.specs.Cells.{check_of}
use Rattle.rq_cells.proofs.HeadBytes.{length-check_of}
use Rattle.rq_cast.specs.Rows.{packet_in}
use Rattle.rq_cast.specs.Sent.{sending_of}
use Rattle.rq_cast.specs.Writing.{IsRoom}
use Rattle.rq_cast.proofs.RowCells.{room_behind_check, parted}
use Rattle.rq_cast.proofs.SentCells.{cell_over}
use Rattle.rq_cast.proofs.sending.Sender.put_check.Goals as goal

pub returns-clause-room : goal.returns-clause-room
returns-clause-room c =
    let s = sending_of c.args.self.now in
    let old = c.args.cell.now in
    let check = check_of s.key (take 56 old ++ c.args.digest.now) in
    subst (IsRoom s.key s.head) (sym c.write_check.ensures)
    (room_behind_check s.key s.head old c.requires.room check (length-check_of s.key (take 56 old ++ c.args.digest.now)))

pub returns-clause-cell : goal.returns-clause-cell
returns-clause-cell c number has hashed =
    let s = sending_of c.args.self.now in
    let old = c.args.cell.now in
    let frame = frame_size s.encoded.configuration in
    let packet = packet_in s.encoded old in
    let rest = drop frame (drop 52 old) in
    let is = parted s.key s.head old c.requires.room frame in
    let same : s.encoded.configuration.symbol_size ≡ s.head.configuration.symbol_size = ap (λ (k : Configuration). k.symbol_size) (sym c.args.self.now.same) in
    let last : length rest ≡ 8 = omega (arith, same, c.requires.room.long, length-drop frame (drop 52 old), length-drop 52 old) in
    cell_over s number old packet rest c.args.digest.now c.write_check.new.cell c.requires.room c.args.self.now.same has last hashed
    (c.write_check.ensures ∙ ap (λ whole. take (length whole - 8) whole ++ check_of s.key (take 56 whole ++ c.args.digest.now)) is)
