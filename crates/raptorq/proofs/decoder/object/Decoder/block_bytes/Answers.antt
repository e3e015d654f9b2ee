use Rattle.std.proofs.Common.{None, ap, arith}
use Rattle.std.specs.Prelude.{option_map, vec_items}
use Rattle.raptorq.proofs.AnsweredParts.{no_part, part_here, part_lent}
use Rattle.rq_standard.proofs.OptionValues.{none_otherwise}
use Rattle.raptorq.proofs.decoder.object.Decoder.block_bytes.Goals as goal

pub returns-in_default-clause-bytes : goal.returns-in_default-clause-bytes
returns-in_default-clause-bytes c =
    let s = c.args.self.now in
    no_part s.config s.blocks.items c.args.source_block_number s.numbered c.in_default.ensures.at

pub returns-in_default-answer-clause-bytes : goal.returns-in_default-answer-clause-bytes
returns-in_default-answer-clause-bytes c = part_here c.in-Some.ensures.at None (none_otherwise vec_items c.in-Some.block.now.answer (λ v e. c.in_default-answer.not-Some v e))

pub returns-clause-bytes : goal.returns-clause-bytes
returns-clause-bytes c =
    part_lent c.in-Some.ensures.at c.in-Some-answer.bytes.items c.as_slice.result.now c.length_from.result c.min-length.result
    (ap (option_map vec_items) c.in-Some-answer.is) c.as_slice.ensures.value c.length_from.ensures (omega (arith, c.min-length.ensures, c.len.ensures, c.in-Some-answer.bytes.ok.0))
