use Rattle.std.proofs.Common.{◌≡◌, ◌-◌}
use Rattle.std.specs.List.{flat_map, range_with_len}
use Rattle.rq_standard.specs.Cutting.{symbol_of_block}
use Rattle.rq_cast.proofs.parts.cut_symbols.Given as goal

-- the symbols so far
abbrev pub invariant-loop-e : goal.invariant-loop-e
invariant-loop-e l = l.symbols.items ≡ flat_map (symbol_of_block l.layout.config l.layout.source_symbols l.block) (range_with_len l.fn.first (l.e - l.fn.first))
