use Rattle.std.proofs.Common.{◌≡◌, not}
use Rattle.std.specs.List.{filter, range_with_len}
use Rattle.rq_guard.specs.Lists.{listed_of}
use Rattle.rq_guard.specs.Damage.{is_whole}
use Rattle.rq_guard.proofs.damage.damaged_among.Given as goal

-- the damaged ones so far
abbrev pub invariant-loop-e : goal.invariant-loop-e
invariant-loop-e l = l.damaged.items ≡ filter (λ e. not (is_whole (listed_of l.list).digests l.digests e)) (range_with_len 0 l.e)
