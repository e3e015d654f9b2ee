use Rattle.rq_base.specs.BinaryRows.{HasLdpc1Columns}
use Rattle.rq_base.proofs.constraint_matrix.binary.set_ldpc_1_columns.Given as goal

abbrev pub invariant-loop-column : goal.invariant-loop-column
invariant-loop-column g l = HasLdpc1Columns l.row.numbers (g.T.BinaryMatrix.content l.initial.matrix).height l.column (g.T.BinaryMatrix.content l.matrix)
