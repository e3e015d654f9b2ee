use Rattle.std.proofs.Common.{◌≡◌, ◌++◌, map, take}
use Rattle.rq_cast.proofs.parts.push_digests.Given as goal

-- the digests so far
abbrev pub invariant-loop-hash : goal.invariant-loop-hash
invariant-loop-hash l = l.digests.items ≡ l.fn.digests.items ++ map (take 32) (take l.hash-index l.hashes)
