use Rattle.std.proofs.Common.{subst}
use Rattle.rq_standard.specs.ReceivedBlock.{ReceivedBlock}
use Rattle.rq_block.specs.Known.{IsReceivedSolution}
use Rattle.rq_block.proofs.decoder.block.SourceBlockDecoder.solve.Goals as goal

pub returns-clause-solved : goal.returns-clause-solved
returns-clause-solved c = subst (λ (h : ReceivedBlock). IsReceivedSolution h c.in_ok-replay.field-0) c.in_ok-solution.ensures.same c.in_ok-replay.ensures.solved
