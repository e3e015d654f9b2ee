use Rattle.std.proofs.Common.{◌-◌}
use Rattle.rq_block.specs.SourceSymbols.{source_symbol}
use Rattle.rq_block.proofs.Interleaving.{Reaches, HasParts}
use Rattle.rq_block.proofs.sub_blocks.BlockLayout.block_of_symbols.Given as goal

-- the sub-blocks before this one
abbrev pub invariant-loop-start : goal.invariant-loop-start
invariant-loop-start l = record {
  at : Reaches l.self.config l.start;
  so_far : HasParts l.self.config l.self.source_symbols (source_symbol l.symbols) l.block.items l.start;
}

abbrev pub decreases-loop-start : goal.decreases-loop-start
decreases-loop-start l = l.size - l.start
