use Rattle.raptorq_c.proofs.Names.{◌≡◌, ◌<◌, sym, ap, ◌∙◌, subst, Configuration, parts_of_decoder, parts_are_objects, state_of, IsPartOf}
use Rattle.std.specs.Option.{option_copied}
use Rattle.raptorq.specs.BlockBytes.{AnswersPart}
use Rattle.raptorq_c.proofs.Answering.{fills_block}
use Rattle.raptorq_c.proofs.decoders.write_part.Goals as goal

pub returns : goal.returns
returns c =
    let s = state_of c.args.decoder.now in
    let blocks : c.source_blocks.result ≡ s.configuration.source_blocks = c.source_blocks.ensures ∙ ap (λ (k : Configuration). k.source_blocks) c.get_config.ensures in
    let known = subst (λ k. c.args.block < k) blocks c.if-block-source_blocks.false in
    let part = option_copied c.block_bytes.result in
    let lent = c.block_bytes.ensures in
    let is : IsPartOf s c.args.block part = record { value = lent.bytes; object = subst (AnswersPart s c.args.block) (sym lent.bytes) (parts_are_objects s c.args.block); whole = parts_of_decoder c.args.decoder.now } in
    let filled = c.fill_answer.ensures in
    fills_block s c.args.block part c.fill_answer.result c.args.bytes.now c.fill_answer.new.buffer known is filled.number filled.answered filled.kept
