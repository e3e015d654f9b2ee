use Rattle.std.proofs.Common.{◌≡◌, map, take}
use Rattle.rq_guard.proofs.list.DigestList.new.Given as goal

abbrev pub invariant-loop-digest : goal.invariant-loop-digest
invariant-loop-digest l = l.listed.items ≡ map (take 16) (take l.digest-index l.digests)
