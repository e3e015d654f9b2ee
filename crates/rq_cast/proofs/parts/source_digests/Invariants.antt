use Rattle.std.proofs.Common.{◌≡◌}
use Rattle.rq_cast.proofs.SymbolDigests.{digests_before}
use Rattle.rq_cast.proofs.parts.source_digests.Given as goal

-- the digests of the blocks so far
abbrev pub invariant-loop-number : goal.invariant-loop-number
invariant-loop-number l = l.digests.items ≡ digests_before l.config l.object l.number
