use Rattle.std.proofs.Common.{arith}
use Rattle.rq_standard.proofs.BlockCuts.{block_symbols_few}
use Rattle.raptorq.proofs.decoder.block.ObjectBlock.new.Goals as goal

pub of_symbols-decoder-requires-clause-in_table : goal.of_symbols-decoder-requires-clause-in_table
of_symbols-decoder-requires-clause-in_table c = omega (arith, c.block_symbols-source_symbols.ensures, block_symbols_few c.args.config.now c.args.number c.requires.number, c.requires.accepted.in_table)
