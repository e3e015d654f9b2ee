use Rattle.std.proofs.Common.{◌≤◌, ◌+◌, ◌-◌, ◌*◌, length, refl, subst, arith}
use Rattle.std.proofs.Math.Nat.{mul-le-mul_right}
use Rattle.rq_block.specs.SourceBlockEncoder.{block_encoded_of}
use Rattle.rq_block.specs.WrittenPackets.{WritesFrame}
use Rattle.rq_block.proofs.WrittenSteps.{written_more}
use Rattle.rq_block.proofs.encoder.block.SourceBlockEncoder.write_packets.Goals as goal

pub loop-esi-preserved : goal.loop-esi-preserved
loop-esi-preserved c =
    let b = block_encoded_of c.args.self.now in
    let len = 4 + b.size in
    let n = c.loop-esi.esi - c.args.start in
    let before = c.loop-esi.packets in
    let after = c.write_packet_at.new.packets in
    let from = c.loop-esi.auto.esi in
    let few : n ≤ c.args.end - c.args.start = omega (arith, c.loop-esi-test.true) in
    let more : n * len ≤ (c.args.end - c.args.start) * len = mul-le-mul_right len few in
    let within : n * len ≤ length before = omega (arith, more, c.requires.len, c.loop-esi.auto.packets) in
    written_more b c.args.start c.loop-esi.esi len before after refl from (omega (arith, c.loop-esi-test.true, c.requires.ids)) within c.loop-esi.invariant
    (subst (λ l. WritesFrame b c.loop-esi.esi (n * l) before after) c.packet_length-len.ensures c.write_packet_at.ensures)
