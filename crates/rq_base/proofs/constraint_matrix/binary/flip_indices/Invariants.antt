use Rattle.std.proofs.Common.{length}
use Rattle.rq_base.proofs.FlippedRows.{IsFlipping}
use Rattle.rq_base.proofs.constraint_matrix.binary.flip_indices.Given as goal

abbrev pub invariant-loop-index : goal.invariant-loop-index
invariant-loop-index g l = IsFlipping (g.T.BinaryMatrix.content l.initial.matrix) l.i l.fn.indices l.indices (g.T.BinaryMatrix.content l.matrix)

abbrev pub decreases-loop-index : goal.decreases-loop-index
decreases-loop-index g l = length l.indices
