use Rattle.rq_base.specs.HdpcPart.{IsFilledFrom, IsHdpcColumn}
use Rattle.rq_base.proofs.constraint_matrix.hdpc.generate_hdpc_rows.Given as goal

abbrev pub invariant-loop-column : goal.invariant-loop-column
invariant-loop-column l = record {
  matrix : IsFilledFrom l.row.numbers l.column l.matrix;
  octets : IsHdpcColumn l.row.numbers l.column l.octets;
}
