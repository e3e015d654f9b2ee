use Rattle.std.proofs.Common.{◌≡◌, Some}
use Rattle.rq_standard.specs.DecoderState.{first_blocks}
use Rattle.raptorq.specs.Decoder.{answer_at}
use Rattle.raptorq.proofs.decoder.object.Decoder.join.Given as goal

-- the blocks so far are joined
abbrev pub invariant-loop-block : goal.invariant-loop-block
invariant-loop-block l = Some l.object.items ≡ first_blocks l.block-index (answer_at l.fn.self.blocks.items)
