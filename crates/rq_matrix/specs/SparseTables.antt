-- That a sparse matrix is a table of bits.
use Rattle.std.proofs.Common.{◌≡◌, ℕ, ◌+◌, ◌-◌, ◌*◌, ◌/◌, ◌%◌, ◌<◌, ◌≤◌, List, [], All, length, get_or, cond, Bool, sym, ap, subst, ◌∙◌, arith, inl, inr}
use Rattle.std.specs.Option.{is_some}
use Rattle.std.proofs.Math.ListN.{get_or-eq_default}
use Rattle.std.proofs.lemmas.Bool.{cases_lt, lt-ltb, le-ltb}
use Rattle.std.proofs.lemmas.Nat.Bits.{bit_at-lt}
use Rattle.rq_standard.specs.BitTable.{IsBitTable}
use Rattle.rq_standard.specs.BitTableSteps.{IsUnchanged}
use Rattle.rq_parts.specs.SparseBinaryVec.{listed_bit}
use Rattle.rq_parts.specs.ListedLaws.{listed-small}
use Rattle.rq_matrix.specs.DenseTails.{Tail, tail_bit}
use Rattle.rq_matrix.specs.Orders.{Order}
use Rattle.rq_matrix.specs.SparseBinaryMatrix.{sparse_bit, sparse_content, IsSparseCopy}
use Rattle.rq_matrix.specs.SparseRows.{IsSparseRow}
use Rattle.rq_matrix.specs.declared.sparse_matrix.SparseBinaryMatrix.{SparseBinaryMatrix}

pub stored-small : (columns : ℕ) (rows : List (List ℕ)) (row k : ℕ) → All (IsSparseRow columns) rows → listed_bit (get_or rows row []) k < 2
stored-small columns rows row k sparse =
    elim (cases_lt row (length rows)) [
      | inl within ↦ listed-small (get_or rows row []) k (sparse row [] within).rises
      | inr past ↦ omega (arith, ap (λ (xs : List ℕ). listed_bit xs k) (get_or-eq_default rows [] past))
    ]

pub tail-small : (tail : Tail) (row column : ℕ) → tail_bit tail row column < 2
tail-small tail row column = bit_at-lt (get_or (get_or tail.blocks (column / 64) []) ((64 * row + column % 64) / 64) 0) ((64 * row + column % 64) % 64)

module _ (width boundary : ℕ) (rows : List (List ℕ)) (row_order column_order : Order) (tail : Tail) (i k : ℕ) where
  either : Bool → ℕ
  either b =
      let row = get_or row_order.order i 0 in
      cond b (listed_bit (get_or rows row []) (get_or column_order.order k 0)) (tail_bit tail row (width - 1 - k))

  pub bit-before : k < boundary → sparse_bit width boundary rows row_order column_order tail i k
      ≡ listed_bit (get_or rows (get_or row_order.order i 0) []) (get_or column_order.order k 0)
  unfolding either
  bit-before before = ap either (lt-ltb k boundary before)

  pub bit-from : boundary ≤ k → sparse_bit width boundary rows row_order column_order tail i k ≡ tail_bit tail (get_or row_order.order i 0) (width - 1 - k)
  unfolding either
  bit-from from = ap either (le-ltb k boundary from)

pub is_sparse_table : (m : SparseBinaryMatrix) → IsBitTable (sparse_content m)
is_sparse_table m = record {
  height_fits = omega (arith, m.rows_fit, m.height_within);
  width_fits = omega (arith, m.columns_fit, m.width_within);
  within = m.boundary_within;
  bits = λ i k _ _.
      elim (cases_lt k m.boundary) [
        | inl before ↦ subst (λ n. n < 2) (sym (bit-before m.width m.boundary m.rows.items m.row_order m.column_order m.tail i k before))
            (stored-small (length m.column_order.order) m.rows.items (get_or m.row_order.order i 0) (get_or m.column_order.order k 0) m.sparse)
        | inr from ↦ subst (λ n. n < 2) (sym (bit-from m.width m.boundary m.rows.items m.row_order m.column_order m.tail i k from))
            (tail-small m.tail (get_or m.row_order.order i 0) (m.width - 1 - k))
      ];
}

pub sparse_copy_is_same : (old new : SparseBinaryMatrix) → IsSparseCopy old new → IsUnchanged (sparse_content old) (sparse_content new)
sparse_copy_is_same old new copy = record {
  shape = record { height = copy.height; width = copy.width; boundary = copy.boundary; indexed = ap is_some copy.index };
  bits = λ i k _ _.
      ap (λ n. sparse_bit n new.boundary new.rows.items new.row_order new.column_order new.tail i k) copy.width
      ∙ ap (λ n. sparse_bit old.width n new.rows.items new.row_order new.column_order new.tail i k) copy.boundary
      ∙ ap (λ (rows : List (List ℕ)). sparse_bit old.width old.boundary rows new.row_order new.column_order new.tail i k) copy.rows
      ∙ ap (λ (o : Order). sparse_bit old.width old.boundary old.rows.items o new.column_order new.tail i k) copy.row_order
      ∙ ap (λ (o : Order). sparse_bit old.width old.boundary old.rows.items old.row_order o new.tail i k) copy.column_order
      ∙ ap (λ (t : Tail). sparse_bit old.width old.boundary old.rows.items old.row_order old.column_order t i k) copy.tail;
}
