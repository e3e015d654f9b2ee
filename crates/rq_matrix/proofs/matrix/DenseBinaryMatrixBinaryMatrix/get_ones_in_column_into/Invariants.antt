-- What the loop keeps in `matrix::DenseBinaryMatrix::get_ones_in_column_into`.
use Rattle.rq_matrix.specs.DenseRows.{bit_in}
use Rattle.rq_matrix.proofs.FoundOnes.{AreFound}
use Rattle.rq_matrix.proofs.matrix.DenseBinaryMatrixBinaryMatrix.get_ones_in_column_into.Given as goal

abbrev pub invariant-loop-row : goal.invariant-loop-row
invariant-loop-row l = AreFound (λ row. bit_in l.self.rows row l.col) l.start_row l.row l.end_row l.out
