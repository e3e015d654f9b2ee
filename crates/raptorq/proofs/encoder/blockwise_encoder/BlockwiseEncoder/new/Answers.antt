use Rattle.std.proofs.Common.{arith}
use Rattle.std.proofs.lemmas.Result.{err_from_is_err_and}
use Rattle.rq_standard.proofs.BlockCuts.{block_symbols_few}
use Rattle.raptorq.proofs.EncodedBlocks.{refuses_block_plan}
use Rattle.raptorq.proofs.encoder.blockwise_encoder.BlockwiseEncoder.new.Goals as goal

pub overflow_cast-count : goal.overflow_cast-count
overflow_cast-count c = omega (arith, c.block_symbols-count.ensures, block_symbols_few c.args.config.now 0 c.requires.accepted.blocks_positive, c.requires.few)

pub returns-in_err-plan-clause-refused : goal.returns-in_err-plan-clause-refused
returns-in_err-plan-clause-refused c =
    let p = err_from_is_err_and c.from_residual.result c.from_residual.ensures.1 in
    rw (p.1, p.2) (refuses_block_plan c.args.table.now c.args.config.now 0 c.block_symbols-count.result c.in_err-plan.field-0.0 c.requires.accepted c.requires.accepted.blocks_positive c.block_symbols-count.ensures c.in_err-plan.ensures.refused)
