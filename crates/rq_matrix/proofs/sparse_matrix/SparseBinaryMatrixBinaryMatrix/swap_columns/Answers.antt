-- What the check leaves to show of `sparse_matrix::SparseBinaryMatrix::swap_columns`.
use Rattle.std.proofs.Common.{ℕ, refl, inl, ◌∙◌, arith}
use Rattle.rq_matrix.proofs.OrderLaws.{exchanges}
use Rattle.rq_matrix.proofs.SparseMatrixLaws.{exchanged_columns}
use Rattle.rq_matrix.proofs.StoredRows.{with_orders}
use Rattle.rq_matrix.proofs.sparse_matrix.SparseBinaryMatrixBinaryMatrix.swap_columns.Goals as goal

pub invariant_of-self : goal.invariant_of-self
invariant_of-self c =
    let old = c.args.self.now in
    let first = c.from-first.ensures ∙ c.stored_column.ensures.value in
    let second = c.from-second.ensures ∙ c.stored_column-2.ensures.value in
    let ex = exchanges old.column_order old.columns_in_order c.args.i c.args.j (omega (arith, c.requires.first, old.boundary_within, old.width_within)) (omega (arith, c.requires.second, old.boundary_within, old.width_within)) c.swap.new.self c.from-first.result c.from-second.result first second c.swap.ensures in
    with_orders old old.row_order c.swap.new.self old.rows_in_order ex.1 refl ex.0.count

pub returns : goal.returns
returns c =
    let old = c.args.self.now in
    let first = c.from-first.ensures ∙ c.stored_column.ensures.value in
    let second = c.from-second.ensures ∙ c.stored_column-2.ensures.value in
    let ex = exchanges old.column_order old.columns_in_order c.args.i c.args.j (omega (arith, c.requires.first, old.boundary_within, old.width_within)) (omega (arith, c.requires.second, old.boundary_within, old.width_within)) c.swap.new.self c.from-first.result c.from-second.result first second c.swap.ensures in
    let exchanged = λ (a : ℕ). exchanged_columns old.width old.boundary old.rows.items old.row_order old.column_order c.swap.new.self old.tail c.args.i c.args.j a c.requires.first c.requires.second ex.0 in
    record {
      shape = record { height = refl; width = refl; boundary = refl; indexed = refl };
      below = λ a _ _. exchanged a;
      above = λ a _ _. inl (exchanged a);
    }
