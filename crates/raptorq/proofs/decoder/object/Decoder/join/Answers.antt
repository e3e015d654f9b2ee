use Rattle.std.proofs.Common.{◌≡◌, ◌++◌, take, Some, ap, ◌∙◌, arith, length}
use Rattle.std.specs.Prelude.{option_map, vec_items}
use Rattle.rq_standard.specs.DecoderState.{first_blocks}
use Rattle.raptorq.specs.Decoder.{answer_at}
use Rattle.rq_block.proofs.Numbered.{length-numbered, turn_of}
use Rattle.raptorq.proofs.ObjectBlocks.{block_number, join_next, join_some}
use Rattle.rq_standard.proofs.OptionValues.{none_otherwise}
use Rattle.raptorq.proofs.decoder.object.Decoder.join.Goals.{in-Some+in_ok-extend_from_slice, in_default}
use Rattle.raptorq.proofs.decoder.object.Decoder.join.Goals as goal

pub loop-block-preserved : goal.loop-block-preserved
loop-block-preserved c =
    let s = c.args.self.now in
    let x = c.block-item.result in
    let n = c.loop-block.block-index in
    let t = turn_of s.blocks.items _ n x c.deref-block-items.ensures.value c.loop-block-test.true c.block-item.is in
    elim c.match-block.branch [
      | in-Some+in_ok-extend_from_slice w ↦ join_next s.blocks.items n x c.loop-block.object.items w.in-Some.bytes.items c.match-block.object.items t.below t.is (ap (option_map vec_items) w.in-Some.is) c.loop-block.invariant
          (ap (λ o. o.items) w.object-is ∙ w.in_ok-extend_from_slice.ensures.items ∙ ap (λ l. c.loop-block.object.items ++ l) w.as_slice.ensures.value)
      | in_default w ↦ absurd (join_some s.config s.blocks.items n x c.requires (omega (arith, t.below, length-numbered block_number s.config.source_blocks s.blocks.items s.numbered)) t.below t.is (none_otherwise vec_items x.answer (λ v e. w.in_default.not-Some v e)))
    ]

pub returns : goal.returns
returns c =
    let items = c.args.self.now.blocks.items in
    let k = c.args.self.now.config in
    let all : c.loop-block.block-index ≡ k.source_blocks = omega (arith, c.loop-block-test.false, c.loop-block.auto.block-index-end, ap length c.deref-block-items.ensures.value, length-numbered block_number k.source_blocks items c.args.self.now.numbered) in
    let joined_all : Some c.loop-block.object.items ≡ first_blocks k.source_blocks (answer_at items) = c.loop-block.invariant ∙ ap (λ n. first_blocks n (answer_at items)) all in
    ap (λ xs. Some xs) (c.truncate.ensures.items ∙ ap (λ n. take n c.loop-block.object.items) c.transfer_length.ensures.value) ∙ ap (option_map (take k.transfer_length)) joined_all
