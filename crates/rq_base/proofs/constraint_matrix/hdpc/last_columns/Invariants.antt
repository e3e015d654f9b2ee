use Rattle.rq_base.proofs.HdpcSteps.{AreRowsFilled}
use Rattle.rq_base.proofs.constraint_matrix.hdpc.last_columns.Given as goal

abbrev pub invariant-loop-i : goal.invariant-loop-i
invariant-loop-i l = AreRowsFilled l.row.numbers l.i l.matrix
