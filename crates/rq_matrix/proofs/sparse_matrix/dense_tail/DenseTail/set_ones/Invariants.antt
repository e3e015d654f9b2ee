-- What the loop keeps in `sparse_matrix::dense_tail::DenseTail::set_ones`.
use Rattle.std.proofs.Common.{take}
use Rattle.rq_matrix.specs.DenseTails.{SetsTailOnes}
use Rattle.rq_matrix.proofs.sparse_matrix.dense_tail.DenseTail.set_ones.Given as goal

abbrev pub invariant-loop-row : goal.invariant-loop-row
invariant-loop-row l = SetsTailOnes l.initial.self (take l.row-index l.rows) l.column l.self
