use Rattle.std.proofs.Common.{sym, ap, ◌∙◌}
use Rattle.raptorq.specs.Decoder.{state_of, solving_at}
use Rattle.raptorq.specs.Unanswered.{missing_in}
use Rattle.rq_block.specs.SourceBlockDecoder.{Solving, received_of, solving_of}
use Rattle.raptorq.proofs.decoder.object.Decoder.missing_packets.Goals as goal

pub returns-clause-value : goal.returns-clause-value
returns-clause-value c =
    let d = c.args.self.now in
    let n = c.args.source_block_number in
    let block = c.in-Some.block.now in
    c.missing_packets.ensures.value
    ∙ ap (λ answer. missing_in answer (solving_of block.decoder).last_outcome (received_of block.decoder)) (sym c.in-Some.ensures.at.answer)
    ∙ ap (λ (solving : Solving). missing_in ((state_of d).answer n) solving.last_outcome (received_of block.decoder)) c.in-Some.ensures.solving
    ∙ ap (missing_in ((state_of d).answer n) (solving_at d n).last_outcome) (sym c.in-Some.ensures.at.received)
