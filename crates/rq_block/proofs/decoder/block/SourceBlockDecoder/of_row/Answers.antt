use Rattle.std.proofs.Common.{sym, ap, ◌∙◌}
use Rattle.std.specs.Prelude.{is_some}
use Rattle.rq_block.proofs.Payloads.{payload_of-empty}
use Rattle.rq_block.proofs.MissingCounts.{missing_count-all}
use Rattle.rq_block.proofs.decoder.block.SourceBlockDecoder.of_row.Goals as goal

pub invariant_of-result-clause-sized : goal.invariant_of-result-clause-sized
invariant_of-result-clause-sized c = λ e x is. absurd (let none = payload_of-empty c.new.result c.new.ensures.empty e in cc (sym none ∙ is))

pub invariant_of-result-clause-bytes : goal.invariant_of-result-clause-bytes
invariant_of-result-clause-bytes c = λ e x is. absurd (let none = payload_of-empty c.new.result c.new.ensures.empty e in cc (sym none ∙ is))

pub invariant_of-result-clause-few : goal.invariant_of-result-clause-few
invariant_of-result-clause-few c = λ e came. absurd (let none = ap is_some (payload_of-empty c.new.result c.new.ensures.empty e) in cc (sym none ∙ came))

pub invariant_of-result-clause-counted : goal.invariant_of-result-clause-counted
invariant_of-result-clause-counted c = sym (missing_count-all c.args.source_symbols _ (λ e. ap is_some (payload_of-empty c.new.result c.new.ensures.empty e)))
