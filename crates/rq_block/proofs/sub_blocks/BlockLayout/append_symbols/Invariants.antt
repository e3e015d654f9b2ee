use Rattle.std.proofs.Common.{◌≡◌, ◌++◌}
use Rattle.std.specs.List.{flat_map, range_with_len}
use Rattle.rq_standard.specs.Cutting.{symbol_of_block}
use Rattle.rq_block.proofs.sub_blocks.BlockLayout.append_symbols.Given as goal

-- the symbols so far
abbrev pub invariant-loop-e : goal.invariant-loop-e
invariant-loop-e l = l.bytes.items ≡ l.fn.bytes.items ++ flat_map (symbol_of_block l.self.config l.self.source_symbols l.block) (range_with_len 0 l.e)
