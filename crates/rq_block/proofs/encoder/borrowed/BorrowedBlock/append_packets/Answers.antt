use Rattle.std.proofs.Common.{◌<◌, ◌^◌, sym, ap, ◌∙◌, arith}
use Rattle.rq_standard.specs.Packet.{id_bytes}
use Rattle.rq_block.specs.BorrowedBlock.{borrowed_of}
use Rattle.rq_block.proofs.AppendedPackets.{appends_no_packets, appends_packet}
use Rattle.rq_block.proofs.Encodes.{new_id-is}
use Rattle.rq_block.proofs.encoder.borrowed.BorrowedBlock.append_packets.Goals as goal

pub loop-esi-init : goal.loop-esi-init
loop-esi-init c = appends_no_packets (borrowed_of c.args.self.now) c.args.bytes.now.items

pub loop-esi-preserved : goal.loop-esi-preserved
loop-esi-preserved c =
    let b = borrowed_of c.args.self.now in
    let esi = c.loop-esi.esi in
    let small : esi < 2 ^ 24 = omega (arith, c.requires, c.loop-esi-test.true) in
    let id = new_id-is b.number esi c.in_ok-new.field-0 small (sym c.in_ok-new.ensures) in
    appends_packet b esi c.args.bytes.now.items c.loop-esi.bytes.items c.extend_from_slice.new.self.items c.append_symbol.new.bytes.items c.serialize.result small (c.serialize.ensures.value ∙ ap id_bytes id)
    c.loop-esi.invariant c.in_ok-extend_from_slice.ensures.items c.in_ok-append_symbol.ensures.symbol
