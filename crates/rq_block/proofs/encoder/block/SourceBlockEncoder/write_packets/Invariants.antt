use Rattle.std.proofs.Common.{◌+◌, ◌-◌, ◌*◌, take}
use Rattle.rq_block.specs.SourceBlockEncoder.{block_encoded_of}
use Rattle.rq_block.specs.WrittenPackets.{AreStretchBytes}
use Rattle.rq_block.proofs.encoder.block.SourceBlockEncoder.write_packets.Given as goal

-- the packets so far
abbrev pub invariant-loop-esi : goal.invariant-loop-esi
invariant-loop-esi l =
    let b = block_encoded_of l.fn.self in
    AreStretchBytes b l.fn.start (l.esi - l.fn.start) (take ((l.esi - l.fn.start) * (4 + b.size)) l.packets)
