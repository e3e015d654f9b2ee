use Rattle.std.proofs.Common.{◌≡◌, ◌-◌, ◌++◌, get_or, map}
use Rattle.std.specs.List.{range_with_len}
use Rattle.rq_standard.specs.Cutting.{place_in_block}
use Rattle.rq_block.proofs.Interleaving.{Reaches}
use Rattle.rq_block.proofs.sub_blocks.BlockLayout.append_source_symbol.Given as goal

-- the symbol's parts of the sub-blocks before this one, behind what was there
abbrev pub invariant-loop-start : goal.invariant-loop-start
invariant-loop-start l = record {
  at : Reaches l.self.config l.start;
  so_far : l.bytes.items ≡ l.fn.bytes.items ++ map (λ t. get_or l.block (place_in_block l.self.config l.self.source_symbols l.e t) 0) (range_with_len 0 l.start);
}

abbrev pub decreases-loop-start : goal.decreases-loop-start
decreases-loop-start l = l.size - l.start
