use Rattle.std.proofs.Common.{◌≡◌, ◌≤◌, ◌-◌, ◌++◌, map}
use Rattle.std.specs.List.{range_with_len}
use Rattle.rq_cast.proofs.SymbolDigests.{digest}
use Rattle.rq_cast.proofs.parts.push_block.Given as goal

-- the digests so far
abbrev pub invariant-loop-first : goal.invariant-loop-first
invariant-loop-first l = record {
  few : l.first ≤ l.layout.source_symbols;
  digests : l.digests.items ≡ l.fn.digests.items ++ map (digest l.layout.config l.layout.source_symbols l.block) (range_with_len 0 l.first);
}

abbrev pub decreases-loop-first : goal.decreases-loop-first
decreases-loop-first l = l.layout.source_symbols - l.first
