-- What the loop keeps in `packed_bits::next_one`.
use Rattle.std.proofs.Common.{◌-◌, ◌≤◌}
use Rattle.rq_bytes.specs.BinaryOctetVec.{packed_bit}
use Rattle.rq_parts.specs.PackedBits.{HasZerosBetween}
use Rattle.rq_parts.proofs.packed_bits.next_one.Given as goal

abbrev pub invariant-loop-column : goal.invariant-loop-column
invariant-loop-column l = record {
  from : l.from ≤ l.column;
  zeros : HasZerosBetween (packed_bit l.row) l.from l.column;
}

abbrev pub decreases-loop-column : goal.decreases-loop-column
decreases-loop-column l = l.end - l.column
