-- What the loops keep in `octet_rows::copy_leading_bits`.
use Rattle.std.proofs.Common.{◌++◌}
use Rattle.rq_standard.specs.BitTableSteps.{AreOnesOf, ones_at}
use Rattle.rq_elimination.specs.LeadingRows.{WritesRow}
use Rattle.rq_null_vector.proofs.octet_rows.copy_leading_bits.Given as goal

abbrev pub invariant-loop-column : goal.invariant-loop-column
invariant-loop-column g l = record {
  can : (goal.iterator-loop-column g).can_next l.column-iterator;
  ends : (goal.iterator-loop-column g).is_finite l.column-iterator;
  whole : AreOnesOf ((g.T.BinaryMatrix.content l.bits).bit l.row) 0 l.lt_columns (l.yielded ++ l.column-iterator);
  writes : WritesRow l.row 0 l.lt_columns (λ k. ones_at k l.yielded) l.fn.rows l.rows;
}
