use Rattle.raptorq_c.proofs.Names.{◌≡◌, ◌<◌, ap, ◌∙◌, arith, get_or, get_or-map-range_with_len, block_range, part_of_block, range_between}
use Rattle.raptorq_c.proofs.Ending.{fills_done}
use Rattle.raptorq_c.proofs.Sized.{offsets_of, offset_count, range_of_block}
use Rattle.raptorq_c.proofs.sizes.block_range.Goals as goal

pub index-requires : goal.index-requires
index-requires c =
    omega (arith, c.from.ensures, c.if-block-source_blocks.false, c.source_blocks.ensures, offset_count c.deserialize-config.result c.in_ok-offsets.offsets.items c.in_ok-offsets.ensures.offsets, c.in_ok-offsets.offsets.ok.0)

pub returns : goal.returns
returns c =
    let header = c.args.configuration.now in
    let d = c.deserialize-config.result in
    let items = c.in_ok-offsets.offsets.items in
    let is = c.in_ok-offsets.ensures.offsets in
    let now = c.index.result.now in
    let below : c.args.block < d.source_blocks = omega (arith, c.if-block-source_blocks.false, c.source_blocks.ensures) in
    let here : c.from.result < d.source_blocks = omega (arith, below, c.from.ensures) in
    let at : now ≡ block_range d c.args.block =
    c.index.ensures ∙ ap (λ xs. get_or xs c.from.result now) (offsets_of d items is) ∙ get_or-map-range_with_len (block_range d) 0 d.source_blocks c.from.result c.from.result now here (omega arith) ∙ ap (block_range d) c.from.ensures in
    fills_done range_between (part_of_block header c.args.block) c.args.range.now (range_between now) (block_range d c.args.block) (range_of_block header c.args.block d items c.deserialize-config.ensures is below) (ap range_between at)
