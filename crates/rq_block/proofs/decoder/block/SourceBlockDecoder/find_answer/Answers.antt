use Rattle.std.proofs.Common.{sym, subst, ◌∙◌, arith}
use Rattle.rq_standard.specs.ReceivedBlock.{ReceivedBlock, has_received, IsBlockWith}
use Rattle.rq_standard.specs.Received.{HasSourceSymbols}
use Rattle.rq_block.specs.SourceBlockDecoder.{received_of}
use Rattle.rq_block.specs.Known.{SolvesBlock}
use Rattle.rq_block.proofs.Answered.{answer-all, answer-none, received_source}
use Rattle.rq_block.proofs.ReceivedEquations.{held_by_decoder}
use Rattle.rq_block.proofs.ReceivedSolutions.{square_received}
use Rattle.rq_block.proofs.decoder.block.SourceBlockDecoder.find_answer.Goals as goal

pub join_source-requires : goal.join_source-requires
join_source-requires c = received_source (received_of c.args.self.now) c.args.self.now.missing_symbols c.args.self.now.counted c.if-all.true

pub join_source-requires-in-None : goal.join_source-requires-in-None
join_source-requires-in-None c =
    let d = c.args.self.now in
    subst (λ (h : ReceivedBlock). HasSourceSymbols h.source_symbols (has_received h)) (sym c.in_ok-intermediate.ensures.same) (received_source (received_of d) d.missing_symbols d.counted c.if-all-2.true)

pub returns-then-len-self-clause-block : goal.returns-then-len-self-clause-block
returns-then-len-self-clause-block c =
    let d = c.args.self.now in
    answer-all (received_of d) c.in_ok-join_source.field-0.items (received_source (received_of d) d.missing_symbols d.counted c.if-all.true) c.in_ok-join_source.ensures
    (square_received (received_of d) d.received (held_by_decoder d c.len.ensures.ordered) (λ e x is. record { size_is = d.sized e x is; elements = d.bytes e x is }) (sym c.len.ensures.len ∙ c.if-len-self.true))

pub returns-in_ok-join_source-in-None-clause-block : goal.returns-in_ok-join_source-in-None-clause-block
returns-in_ok-join_source-in-None-clause-block c =
    let d = c.args.self.now in
    let none = subst (SolvesBlock (received_of d)) c.in-None.is c.in_ok-intermediate.ensures.solved in
    let block = subst (λ (h : ReceivedBlock). IsBlockWith h c.in_ok-join_source-in-None.field-0.items) c.in_ok-intermediate.ensures.same c.in_ok-join_source-in-None.ensures in
    answer-all (received_of d) c.in_ok-join_source-in-None.field-0.items (received_source (received_of d) d.missing_symbols d.counted c.if-all-2.true) block (λ determined. absurd (none determined))

pub returns-in-None-2-clause-block : goal.returns-in-None-2-clause-block
returns-in-None-2-clause-block c =
    let d = c.args.self.now in
    answer-none (received_of d) d.missing_symbols d.counted (omega (arith, c.if-all-2.false)) (subst (SolvesBlock (received_of d)) c.in-None.is c.in_ok-intermediate.ensures.solved)
