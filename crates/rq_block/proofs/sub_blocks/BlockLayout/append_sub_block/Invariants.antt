use Rattle.std.proofs.Common.{◌≡◌, ◌+◌, ◌++◌, []}
use Rattle.std.specs.Prelude.{slice_range, unwrap_or}
use Rattle.std.specs.List.{flat_map, range_with_len}
use Rattle.rq_block.specs.SourceSymbols.{source_symbol}
use Rattle.rq_block.proofs.sub_blocks.BlockLayout.append_sub_block.Given as goal

-- the parts of the symbols before this one
abbrev pub invariant-loop-e : goal.invariant-loop-e
invariant-loop-e l = l.block.items ≡ l.fn.block.items ++ flat_map (λ e. slice_range (unwrap_or (source_symbol l.symbols e) []) l.part.start (l.part.start + l.part.width)) (range_with_len 0 l.e)
