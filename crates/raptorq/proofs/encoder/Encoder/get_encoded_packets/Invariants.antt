use Rattle.raptorq.specs.Encoder.{encoded_of}
use Rattle.raptorq.proofs.EncodedBlocks.{AreEncodedSoFar}
use Rattle.raptorq.proofs.encoder.Encoder.get_encoded_packets.Given as goal

-- the packets of the blocks so far
abbrev pub invariant-loop-block : goal.invariant-loop-block
invariant-loop-block l = AreEncodedSoFar l.fn.self.config l.fn.repair_packets_per_block l.block-index (encoded_of l.fn.self) l.packets.items
