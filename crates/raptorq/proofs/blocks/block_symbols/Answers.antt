use Rattle.std.proofs.Common.{◌∙◌, arith}
use Rattle.raptorq.proofs.BlockParts.{block_parts_are, larger_part, smaller_part, few_symbols}
use Rattle.raptorq.proofs.blocks.block_symbols.Goals as goal

pub overflow_cast-total_symbols : goal.overflow_cast-total_symbols
overflow_cast-total_symbols c =
    let few = few_symbols c.args.config.now (omega (arith, c.requires.number)) (omega (arith, c.source_blocks.ensures, c.source_blocks.type_inv)) c.requires.few in
    omega (arith, c.total_symbols.ensures.value, few)

pub returns-then-from-larger_count : goal.returns-then-from-larger_count
returns-then-from-larger_count c =
    let k = c.args.config.now in
    let parts = block_parts_are k _ c.from-blocks.result c.partition-larger.result c.partition-larger.ensures.value c.total_symbols.ensures.value (c.from-blocks.ensures ∙ c.source_blocks.ensures) in
    larger_part k c.args.number c.partition-larger.result parts (omega (arith, c.if-from-larger_count.true, c.from.ensures))

pub returns-else-from-larger_count : goal.returns-else-from-larger_count
returns-else-from-larger_count c =
    let k = c.args.config.now in
    let parts = block_parts_are k _ c.from-blocks.result c.partition-larger.result c.partition-larger.ensures.value c.total_symbols.ensures.value (c.from-blocks.ensures ∙ c.source_blocks.ensures) in
    smaller_part k c.args.number c.partition-larger.result parts (omega (arith, c.if-from-larger_count.false, c.from.ensures)) c.requires.number
