use Rattle.std.proofs.Common.{◌≡◌, length, map, take}
use Rattle.rq_cast.proofs.sending.rows.digests_by.Given as goal

-- the digests so far
abbrev pub invariant-loop-j : goal.invariant-loop-j
invariant-loop-j l = record {
  long : length l.digests ≡ 8;
  made : take l.j l.digests ≡ map (take 32) (take l.j l.hashes);
}
