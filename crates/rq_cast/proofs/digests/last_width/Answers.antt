use Rattle.std.proofs.Common.{◌≡◌, ◌*◌, ◌/◌, max, ap, ◌∙◌}
use Rattle.rq_standard.specs.Cutting.{sub_block_parts}
use Rattle.rq_cast.proofs.KnownSymbols.{sub_block_count-max}
use Rattle.rq_cast.proofs.digests.last_width.Goals as goal

pub returns : goal.returns
returns c =
    let k = c.args.config.now in
    let size = c.symbol_size.ensures in
    let alignment = c.from.ensures ∙ c.symbol_alignment.ensures in
    let count = c.max-sub_blocks.ensures ∙ ap (λ n. max n 1) c.sub_blocks.ensures ∙ sub_block_count-max k.sub_blocks in
    let smaller : c.from-2.result ≡ (sub_block_parts k).smaller = c.from-2.ensures ∙ (λ i. size i / alignment i / count i) in
    let unit = c.from-3.ensures ∙ c.symbol_alignment-2.ensures in
    λ i. smaller i * unit i
