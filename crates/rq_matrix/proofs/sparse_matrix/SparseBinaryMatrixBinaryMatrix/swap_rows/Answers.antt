-- What the check leaves to show of `sparse_matrix::SparseBinaryMatrix::swap_rows`.
use Rattle.std.proofs.Common.{ℕ, refl, ap, arith}
use Rattle.rq_matrix.proofs.OrderLaws.{exchanges}
use Rattle.rq_matrix.specs.SparseBinaryMatrix.{row_bit}
use Rattle.rq_matrix.proofs.StoredRows.{with_orders}
use Rattle.rq_matrix.proofs.sparse_matrix.SparseBinaryMatrixBinaryMatrix.swap_rows.Goals as goal

pub invariant_of-self : goal.invariant_of-self
invariant_of-self c =
    let old = c.args.self.now in
    let ex = exchanges old.row_order old.rows_in_order c.args.i c.args.j (omega (arith, c.requires.first, old.ordered, old.height_within)) (omega (arith, c.requires.second, old.ordered, old.height_within)) c.swap.new.self c.stored_row-first.result c.stored_row-second.result c.stored_row-first.ensures.value c.stored_row-second.ensures.value c.swap.ensures in
    with_orders old c.swap.new.self old.column_order ex.1 old.columns_in_order ex.0.count refl

pub returns : goal.returns
returns c =
    let old = c.args.self.now in
    let bit = row_bit old.width old.boundary old.rows.items old.column_order old.tail in
    let ex = (exchanges old.row_order old.rows_in_order c.args.i c.args.j (omega (arith, c.requires.first, old.ordered, old.height_within)) (omega (arith, c.requires.second, old.ordered, old.height_within)) c.swap.new.self c.stored_row-first.result c.stored_row-second.result c.stored_row-first.ensures.value c.stored_row-second.ensures.value c.swap.ensures).0 in
    record {
      shape = record { height = refl; width = refl; boundary = refl; indexed = refl };
      first = λ k _. ap (λ (r : ℕ). bit r k) ex.first;
      second = λ k _. ap (λ (r : ℕ). bit r k) ex.second;
      other_rows = λ a k _ _ not_i not_j. ap (λ (r : ℕ). bit r k) (ex.elsewhere a not_i not_j);
    }
