-- What the check leaves to show of `sparse_matrix::SparseBinaryMatrix::enable_column_access_acceleration`.
use Rattle.std.proofs.Common.{get_or, sym, subst}
use Rattle.rq_matrix.specs.SparseRows.{IsSparseRow}
use Rattle.rq_matrix.proofs.sparse_matrix.SparseBinaryMatrixBinaryMatrix.enable_column_access_acceleration.Goals as goal

pub column_index-requires-clause-rows : goal.column_index-requires-clause-rows
column_index-requires-clause-rows c = λ k d l. subst (λ n. IsSparseRow n (get_or c.args.self.now.rows.items k d)) (sym c.len.ensures) (c.args.self.now.sparse k d l)
