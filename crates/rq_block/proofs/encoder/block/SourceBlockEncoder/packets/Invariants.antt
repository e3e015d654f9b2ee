use Rattle.std.proofs.Common.{◌-◌}
use Rattle.rq_block.specs.SourceBlockEncoder.{block_encoded_of, AreBlockPackets}
use Rattle.rq_block.proofs.encoder.block.SourceBlockEncoder.packets.Given as goal

-- the packets so far
abbrev pub invariant-loop-esi : goal.invariant-loop-esi
invariant-loop-esi l = AreBlockPackets (block_encoded_of l.fn.self) l.fn.start (l.esi - l.fn.start) l.packets.items
