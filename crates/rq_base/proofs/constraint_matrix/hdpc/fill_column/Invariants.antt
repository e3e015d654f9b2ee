use Rattle.rq_base.proofs.HdpcSteps.{IsPartlyFilled}
use Rattle.rq_base.proofs.constraint_matrix.hdpc.fill_column.Given as goal

abbrev pub invariant-loop-i : goal.invariant-loop-i
invariant-loop-i l = IsPartlyFilled l.row.numbers l.column l.i l.matrix
