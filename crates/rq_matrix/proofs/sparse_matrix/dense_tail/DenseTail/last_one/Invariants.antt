-- What the loop keeps in `sparse_matrix::dense_tail::DenseTail::last_one`.
use Rattle.std.proofs.Common.{◌≤◌}
use Rattle.rq_parts.specs.PackedBits.{HasZerosBetween}
use Rattle.rq_matrix.specs.DenseTails.{tail_bit}
use Rattle.rq_matrix.proofs.sparse_matrix.dense_tail.DenseTail.last_one.Given as goal

abbrev pub invariant-loop-end : goal.invariant-loop-end
invariant-loop-end l = record {
  within : l.end ≤ l.initial.end;
  zeros : HasZerosBetween (tail_bit l.self l.row) l.end l.initial.end;
}

abbrev pub decreases-loop-end : goal.decreases-loop-end
decreases-loop-end l = l.end
