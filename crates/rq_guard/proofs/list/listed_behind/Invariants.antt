use Rattle.std.proofs.Common.{◌≡◌, ◌*◌, map, take, drop}
use Rattle.std.specs.List.{range_with_len}
use Rattle.rq_guard.proofs.list.listed_behind.Given as goal

abbrev pub invariant-loop-i : goal.invariant-loop-i
invariant-loop-i l = l.digests.items ≡ map (λ i. take 16 (drop (i * 16) l.bytes)) (range_with_len 0 l.i)
