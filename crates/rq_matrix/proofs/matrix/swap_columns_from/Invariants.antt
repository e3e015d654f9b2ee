-- What the loop keeps in `matrix::swap_columns_from`.
use Rattle.rq_matrix.specs.DenseRows.{AreSwappedFrom}
use Rattle.rq_matrix.proofs.matrix.swap_columns_from.Given as goal

abbrev pub invariant-loop-row : goal.invariant-loop-row
invariant-loop-row l = AreSwappedFrom l.i l.j l.start l.row l.initial.rows l.rows
