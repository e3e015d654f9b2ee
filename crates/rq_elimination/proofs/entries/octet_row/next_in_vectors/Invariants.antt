-- What the loop keeps in `entries::octet_row::next_in_vectors`.
use Rattle.std.proofs.Common.{◌≡◌, ℕ, ◌+◌, ◌-◌, ◌%◌, ◌<◌, ◌≤◌, length}
use Rattle.rq_algebra.specs.Systems.{at}
use Rattle.rq_elimination.specs.NonzeroOctets.{HasOnes}
use Rattle.rq_elimination.proofs.entries.octet_row.next_in_vectors.Given as goal

abbrev pub invariant-loop-rest : goal.invariant-loop-rest
invariant-loop-rest l = record {
  whole : l.start % 32 ≡ 0;
  room : l.start + 32 ≤ length l.octets;
  near : l.place < l.start + 32;
  ones : HasOnes l.octets l.start l.place l.rest;
  zeros : (k : ℕ) → l.place < k → k < l.start → at l.octets k ≡ 0;
}

abbrev pub decreases-loop-rest : goal.decreases-loop-rest
decreases-loop-rest l = length l.octets - l.start
