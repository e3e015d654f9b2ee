use Rattle.raptorq.proofs.Witnesses.{DifferenceSoFar}
use Rattle.raptorq.proofs.decoder.object.Decoder.difference.Given as goal

-- the blocks so far
abbrev pub invariant-loop-block : goal.invariant-loop-block
invariant-loop-block l = DifferenceSoFar l.fn.self.config l.fn.self.blocks.items l.block-index l.determined l.bytes.items
