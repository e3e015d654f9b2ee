-- What the check leaves to show of `sparse_matrix::SparseBinaryMatrix::get_row_iter`.
use Rattle.std.proofs.Common.{sym, subst}
use Rattle.rq_standard.specs.BitTableSteps.{AreOnesOf}
use Rattle.rq_matrix.specs.SparseBinaryMatrix.{sparse_bit}
use Rattle.rq_matrix.proofs.StoredRows.{ones_known, pairs_are}
use Rattle.rq_matrix.proofs.sparse_matrix.SparseBinaryMatrixBinaryMatrix.get_row_iter.Goals as goal

pub new_sparse-requires-clause-known : goal.new_sparse-requires-clause-known
new_sparse-requires-clause-known c = ones_known c.args.self.now c.args.row c.stored_row-row.result c.index.result.now c.places-columns.result.now c.stored_row-row.ensures.value c.stored_row-row.ensures.below c.index.ensures c.places-columns.ensures

pub returns : goal.returns
returns c =
    let m = c.args.self.now in
    subst (AreOnesOf (sparse_bit m.width m.boundary m.rows.items m.row_order m.column_order m.tail c.args.row) c.args.start_col c.args.end_col) (sym c.new_sparse.ensures)
    (pairs_are m c.args.row c.stored_row-row.result c.index.result.now c.places-columns.result.now c.stored_row-row.ensures.value c.stored_row-row.ensures.below c.index.ensures c.places-columns.ensures c.args.start_col c.args.end_col c.requires.before)
