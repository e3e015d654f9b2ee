use Rattle.std.proofs.Common.{max, ap, ◌∙◌}
use Rattle.rq_block.proofs.Interleaving.{ArePartsOf, sub_block_parts_are, size_first, size_later}
use Rattle.rq_block.proofs.sub_blocks.sub_block_size.Goals as goal
use Rattle.rq_block.proofs.sub_blocks.sub_block_size.Goals.{then-byte-larger_bytes, else-byte-larger_bytes}

pub returns : goal.returns
returns c =
    let k = c.args.config.now in
    let r = c.partition-larger.result in
    let p : ArePartsOf k c.from-alignment.result r.0 r.1 r.2 = sub_block_parts_are k c.from-alignment.result c.from.result c.from-sub_blocks.result r (c.from-alignment.ensures ∙ c.symbol_alignment.ensures) (c.from.ensures ∙ c.symbol_size.ensures)
    (c.from-sub_blocks.ensures ∙ c.max.ensures ∙ ap (λ n. max n 1) c.sub_blocks.ensures) c.partition-larger.ensures.value in
    elim c.if-byte-larger_bytes.branch [
      | then-byte-larger_bytes w ↦ size_first k c.from-alignment.result r.0 r.1 r.2 c.args.byte c.if-byte-larger_bytes.width p w.if-byte-larger_bytes.true w.width-is
      | else-byte-larger_bytes w ↦ size_later k c.from-alignment.result r.0 r.1 r.2 c.args.byte c.if-byte-larger_bytes.width p w.if-byte-larger_bytes.false w.width-is
    ]
