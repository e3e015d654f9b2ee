-- What the loop keeps in `packed_bits::count_ones`.
use Rattle.std.proofs.Common.{◌≡◌, ◌-◌, ◌≤◌}
use Rattle.rq_bytes.specs.BinaryOctetVec.{packed_bit}
use Rattle.rq_standard.specs.BitTableSteps.{ones_between}
use Rattle.rq_parts.proofs.packed_bits.count_ones.Given as goal

abbrev pub invariant-loop-column : goal.invariant-loop-column
invariant-loop-column l = record {
  from : l.start ≤ l.column;
  before : l.column ≤ l.end;
  counted : l.ones ≡ ones_between (packed_bit l.row) l.start l.column;
  few : l.ones ≤ l.column - l.start;
}

abbrev pub decreases-loop-column : goal.decreases-loop-column
decreases-loop-column l = l.end - l.column
