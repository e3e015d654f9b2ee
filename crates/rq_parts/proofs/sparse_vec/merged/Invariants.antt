use Rattle.std.proofs.Common.{length, ◌-◌, ◌+◌}
use Rattle.rq_parts.proofs.Merging.{IsMerging}
use Rattle.rq_parts.proofs.sparse_vec.merged.Given as goal

abbrev pub invariant-loop-i : goal.invariant-loop-i
invariant-loop-i l = IsMerging l.fn.row l.fn.other l.sum.items l.added l.i l.j

abbrev pub decreases-loop-i : goal.decreases-loop-i
decreases-loop-i l = length l.row + length l.other - (l.i + l.j)
