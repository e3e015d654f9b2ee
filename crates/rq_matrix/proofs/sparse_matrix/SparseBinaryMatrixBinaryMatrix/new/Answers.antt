-- What the check leaves to show of `sparse_matrix::SparseBinaryMatrix::new`.
use Rattle.std.proofs.Common.{◌≡◌, ◌-◌, ℕ, List, [], All, length, get_or, refl, sym, ap, subst, ◌∙◌, inl, inr, arith}
use Rattle.std.proofs.lemmas.Bool.{cases_lt}
use Rattle.std.proofs.lemmas.List.{length-replicate}
use Rattle.std.proofs.lemmas.List.FromFn.{length-range_with_len}
use Rattle.rq_parts.specs.SparseBinaryVec.{listed_bit}
use Rattle.rq_matrix.specs.Orders.{Order, IsPlacedOrder}
use Rattle.rq_matrix.specs.SparseRows.{IsSparseRow}
use Rattle.rq_matrix.specs.SparseTables.{bit-before, bit-from}
use Rattle.rq_matrix.proofs.OrderLaws.{first_order, first_is_order, first_made, first_numbers}
use Rattle.rq_matrix.proofs.SparseRowLaws.{empty_rows_are, no_ones}
use Rattle.rq_matrix.proofs.sparse_matrix.SparseBinaryMatrixBinaryMatrix.new.Goals as goal
use Rattle.rq_matrix.proofs.sparse_matrix.SparseBinaryMatrixBinaryMatrix.new.Goals.{In_ok-new-3}

module _ (c : In_ok-new-3) where
  rows : length c.in_ok-empty_rows.field-0.items ≡ c.args.height
  rows = ap length c.in_ok-empty_rows.ensures ∙ length-replicate c.args.height []

  row_order : c.in_ok-new-2.field-0 ≡ first_order c.args.height
  row_order = first_made c.args.height c.in_ok-collect.field-0.items c.in_ok-new-2.field-0 (c.in_ok-collect.ensures.ran.2.0 ∙ first_numbers c.args.height c.in_ok-collect.ensures.ran.0 c.in_ok-collect.ensures.ran.1) c.in_ok-new-2.ensures

  column_order : c.in_ok-new-3.field-0 ≡ first_order c.args.width
  column_order = first_made c.args.width c.in_ok-collect-2.field-0.items c.in_ok-new-3.field-0 (c.in_ok-collect-2.ensures.ran.2.0 ∙ first_numbers c.args.width c.in_ok-collect-2.ensures.ran.0 c.in_ok-collect-2.ensures.ran.1) c.in_ok-new-3.ensures

  ordered : length c.in_ok-new-2.field-0.order ≡ c.args.height
  ordered = ap (λ (o : Order). length o.order) row_order ∙ length-range_with_len 0 c.args.height

  columns : length c.in_ok-new-3.field-0.order ≡ c.args.width
  columns = ap (λ (o : Order). length o.order) column_order ∙ length-range_with_len 0 c.args.width

pub invariant_of-result : goal.invariant_of-result
invariant_of-result c =
    let n = length c.in_ok-new-3.field-0.order in
    record {
      rows_fit = omega (arith, rows c, c.requires.height);
      columns_fit = omega (arith, columns c, c.requires.width);
      height_within = omega (arith, rows c);
      width_within = omega (arith, columns c);
      boundary_within = omega arith;
      ordered = ordered c ∙ sym (rows c);
      rows_in_order = subst IsPlacedOrder (sym (row_order c)) (first_is_order c.args.height);
      columns_in_order = subst IsPlacedOrder (sym (column_order c)) (first_is_order c.args.width);
      sparse = subst (All (IsSparseRow n)) (sym c.in_ok-empty_rows.ensures) (empty_rows_are n c.args.height);
      tail_rows = c.in_ok-new.ensures.rows ∙ sym (rows c);
      tail_columns = omega (arith, c.in_ok-new.ensures.columns, c.requires.dense);
      index_is = λ lists is. cc;
    }

pub returns-clause-ok : goal.returns-clause-ok
returns-clause-ok c =
    let items = c.in_ok-empty_rows.field-0.items in
    let tail = c.in_ok-new.field-0 in
    let row_order = c.in_ok-new-2.field-0 in
    let column_order = c.in_ok-new-3.field-0 in
    let boundary = c.args.width - c.args.trailing_dense_column_hint in
    record {
      height = refl;
      width = refl;
      boundary = refl;
      indexed = refl;
      zeros = λ i k _ _.
          elim (cases_lt k boundary) [
            | inl before ↦
                bit-before c.args.width boundary items row_order column_order tail i k before
                ∙ ap (λ (l : List (List ℕ)). listed_bit (get_or l (get_or row_order.order i 0) []) (get_or column_order.order k 0)) c.in_ok-empty_rows.ensures
                ∙ no_ones c.args.height (get_or row_order.order i 0) (get_or column_order.order k 0)
            | inr from ↦ bit-from c.args.width boundary items row_order column_order tail i k from ∙ c.in_ok-new.ensures.zeros (get_or row_order.order i 0) (c.args.width - 1 - k)
          ];
    }
