use Rattle.std.proofs.Common.{◌≡◌, ◌+◌, ◌++◌, length, sym, ap, ◌∙◌, subst, arith}
use Rattle.rq_standard.specs.Configuration.{Configuration}
use Rattle.rq_standard.specs.Streams.{frame_size}
use Rattle.raptorq.specs.Encoder.{IsFrameIn}
use Rattle.rq_cast.specs.Rows.{packet_in}
use Rattle.rq_cast.specs.Sent.{sending_of}
use Rattle.rq_cast.specs.Writing.{IsRoom}
use Rattle.rq_cast.proofs.RowCells.{room_behind_packet, packet_there}
use Rattle.rq_cast.proofs.sending.Sender.put_packet.Goals as goal

pub returns : goal.returns
returns c =
    let s = sending_of c.args.self.now in
    let old = c.args.cell.now in
    let packet = c.write_packet.new.packet in
    let rest = c.split_at_mut-packet.result.1.now in
    let frame = c.write_packet.ensures in
    let same : s.encoded.configuration.symbol_size ≡ s.head.configuration.symbol_size = ap (λ (k : Configuration). k.symbol_size) (sym c.args.self.now.same) in
    let long : 52 + length packet + length rest ≡ length old =
    omega (arith, same, frame.long, c.requires.room.long, c.requires.length, c.split_at_mut-behind.ensures.back_len, c.split_at_mut-packet.ensures.back_len) in
    let is = ap (λ head. head ++ (packet ++ rest)) c.split_at_mut-behind.ensures.front in
    record {
      packet = subst (IsFrameIn s.encoded c.args.block c.args.esi)
          (sym (ap (packet_in s.encoded) is ∙ packet_there s.key s.head old c.requires.room packet rest long (frame_size s.encoded.configuration) frame.long)) frame;
      room = subst (IsRoom s.key s.head) (sym is) (room_behind_packet s.key s.head old c.requires.room packet rest long);
    }
