-- What the loop keeps in `sparse_matrix::SparseBinaryMatrix::query_non_zero_columns_into`.
use Rattle.std.proofs.Common.{◌-◌, ◌≤◌}
use Rattle.rq_matrix.specs.DenseTails.{tail_bit}
use Rattle.rq_matrix.proofs.FoundOnes.{AreFound}
use Rattle.rq_matrix.proofs.sparse_matrix.SparseBinaryMatrixBinaryMatrix.query_non_zero_columns_into.Given as goal

abbrev pub invariant-loop-column : goal.invariant-loop-column
invariant-loop-column l = record {
  within : l.end ≤ l.self.width - l.start_col;
  found : AreFound (λ k. tail_bit l.self.tail l.row (l.self.width - 1 - k)) l.start_col (l.self.width - l.end) l.self.width l.out;
}

abbrev pub decreases-loop-column : goal.decreases-loop-column
decreases-loop-column l = l.end
