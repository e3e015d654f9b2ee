use Rattle.std.proofs.Common.{◌≡◌}
use Rattle.raptorq.specs.Decoder.{state_of}
use Rattle.rq_cast.proofs.SymbolDigests.{digests_before}
use Rattle.rq_cast.proofs.digests.received_digests.Given as goal

-- the digests of the blocks so far
abbrev pub invariant-loop-number : goal.invariant-loop-number
invariant-loop-number l = l.digests.items ≡ digests_before (state_of l.decoder).configuration l.object l.number
