use Rattle.rq_base.specs.BinaryRows.{HasLdpcRows}
use Rattle.rq_base.proofs.constraint_matrix.binary.set_ldpc_rows.Given as goal

abbrev pub invariant-loop-i : goal.invariant-loop-i
invariant-loop-i g l = HasLdpcRows l.row.numbers (g.T.BinaryMatrix.content l.initial.matrix).height l.i (g.T.BinaryMatrix.content l.matrix)
