-- What the check leaves to show of `sparse_matrix::SparseBinaryMatrix::count_ones`.
use Rattle.std.proofs.Common.{◌∙◌}
use Rattle.rq_matrix.specs.SparseBinaryMatrix.{sparse_bit}
use Rattle.rq_matrix.proofs.SparseRowLaws.{sparse_count}
use Rattle.rq_matrix.proofs.StoredRows.{ones_known, pairs_are}
use Rattle.rq_matrix.proofs.sparse_matrix.SparseBinaryMatrixBinaryMatrix.count_ones.Goals as goal

pub count_between-requires : goal.count_between-requires
count_between-requires c = ones_known c.args.self.now c.args.row c.stored_row-row.result c.index.result.now c.places-columns.result.now c.stored_row-row.ensures.value c.stored_row-row.ensures.below c.index.ensures c.places-columns.ensures

pub returns : goal.returns
returns c =
    let m = c.args.self.now in
    let bit = sparse_bit m.width m.boundary m.rows.items m.row_order m.column_order m.tail c.args.row in
    let are = pairs_are m c.args.row c.stored_row-row.result c.index.result.now c.places-columns.result.now c.stored_row-row.ensures.value c.stored_row-row.ensures.below c.index.ensures c.places-columns.ensures c.args.start_col c.args.end_col c.requires.before in
    c.count_between.ensures ∙ sparse_count bit c.index.result.now c.places-columns.result.now c.args.start_col c.args.end_col c.requires.range are
