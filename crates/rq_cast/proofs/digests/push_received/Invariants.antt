use Rattle.std.proofs.Common.{◌≡◌, ◌++◌, map}
use Rattle.std.specs.List.{range_with_len}
use Rattle.rq_cast.proofs.SymbolDigests.{digest}
use Rattle.rq_cast.proofs.digests.push_received.Given as goal

-- the digests so far
abbrev pub invariant-loop-e : goal.invariant-loop-e
invariant-loop-e l = l.digests.items ≡ l.fn.digests.items ++ map (digest l.layout.config l.layout.source_symbols l.block) (range_with_len 0 l.e)
