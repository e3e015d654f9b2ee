use Rattle.std.proofs.Common.{arith}
use Rattle.rq_standard.proofs.RowLaws.{greatest_below}
use Rattle.rq_block.proofs.encoder.block.source_symbol_count.Goals as goal

pub overflow_cast-result : goal.overflow_cast-result
overflow_cast-result c = omega (arith, greatest_below c.args.table.now c.greatest.ensures.checked, c.greatest.ensures.size, c.if-count-greatest.false)
