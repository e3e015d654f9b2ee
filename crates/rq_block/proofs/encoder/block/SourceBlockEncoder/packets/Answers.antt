use Rattle.std.proofs.Common.{◌≡◌, ◌-◌, subst, arith}
use Rattle.rq_block.specs.SourceBlockEncoder.{block_encoded_of, AreBlockPackets}
use Rattle.rq_block.proofs.Encodes.{new_id-is, block_packets-none, block_packets-more}
use Rattle.rq_block.proofs.encoder.block.SourceBlockEncoder.packets.Goals as goal

pub loop-esi-init : goal.loop-esi-init
loop-esi-init c = block_packets-none (block_encoded_of c.args.self.now) c.args.start c.in_ok-packets.packets.items c.in_ok-packets.ensures.items

pub loop-esi-preserved : goal.loop-esi-preserved
loop-esi-preserved c =
    let b = block_encoded_of c.args.self.now in
    block_packets-more b c.args.start c.loop-esi.esi c.loop-esi.packets.items c.push.new.self.items c.in_ok-packet.field-0 c.loop-esi.auto.esi c.loop-esi.invariant
    (new_id-is b.number c.loop-esi.esi c.in_ok-packet.field-0.id (omega (arith, c.requires.ids)) c.in_ok-packet.ensures.id) c.in_ok-packet.ensures.packet c.in_ok-push.ensures.items

pub returns-clause-packets : goal.returns-clause-packets
returns-clause-packets c =
    let count : c.loop-esi.esi - c.args.start ≡ c.args.end - c.args.start = omega (arith, c.loop-esi.auto.esi-end c.requires.order) in
    subst (λ n. AreBlockPackets (block_encoded_of c.args.self.now) c.args.start n c.loop-esi.packets.items) count c.loop-esi.invariant
