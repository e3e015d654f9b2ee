-- What is read of a sparse matrix's stored rows, and what becomes of the matrix when one of them changes.
use Rattle.std.proofs.Common.{◌≡◌, ◌-◌, ◌<◌, ◌≤◌, ◌^◌, ℕ, List, [], Option, Result, OnOk, OnErr, false, All, length, set, get_or, refl, sym, ap, subst, ◌∙◌, arith, length-set}
use Rattle.std.specs.List.Sorted.{IsStrictlyIncreasing}
use Rattle.std.specs.Option.{is_some, ForSome}
use Rattle.std.proofs.lemmas.List.{get_or_read}
use Rattle.std.proofs.lemmas.List.Elements.{All-set}
use Rattle.rq_standard.specs.BitTableSteps.{AreOnesOf}
use Rattle.rq_parts.specs.BitPairs.{sparse_pairs}
use Rattle.rq_parts.specs.SparseBinaryVec.{listed_bit, SetsListed}
use Rattle.rq_matrix.specs.DenseTails.{Tail}
use Rattle.rq_matrix.specs.Orders.{Order, IsPlacedOrder}
use Rattle.rq_matrix.specs.SparseBinaryMatrix.{sparse_bit}
use Rattle.rq_matrix.specs.SparseRows.{IsSparseRow, IsColumnIndex}
use Rattle.rq_matrix.specs.SparseTables.{bit-before}
use Rattle.rq_matrix.specs.declared.sparse_matrix.SparseBinaryMatrix.{SparseBinaryMatrix}
use Rattle.rq_matrix.proofs.SparseRowLaws.{row_set, sparse_ones}

-- the ones of the stored row that is the i-th, and the places of the columns
module _ (m : SparseBinaryMatrix) (i row : ℕ) (ones places : List ℕ) (stored : row ≡ get_or m.row_order.order i 0) (within : row < length m.rows.items) (is : ones ≡ get_or m.rows.items row ones) (are : places ≡ m.column_order.places) where
  read : ones ≡ get_or m.rows.items row []
  read = get_or_read m.rows.items row ones within is []

  pub ones_known : All (λ one. one < length places) ones
  ones_known =
      let below = subst (All (λ one. one < length m.column_order.order)) (sym read) (m.sparse row [] within).below in
      subst (λ n. All (λ one. one < n) ones) (sym (ap length are ∙ m.columns_in_order.place_count)) below

  pub pairs_are : (start end : ℕ) → end ≤ m.boundary → AreOnesOf (sparse_bit m.width m.boundary m.rows.items m.row_order m.column_order m.tail i) start end (sparse_pairs ones places start end)
  pairs_are start end before =
      let bit = sparse_bit m.width m.boundary m.rows.items m.row_order m.column_order m.tail i in
      let stored_ones = get_or m.rows.items row [] in
      subst (λ (l : List ℕ). AreOnesOf bit start end (sparse_pairs l places start end)) (sym read)
      (subst (λ (l : List ℕ). AreOnesOf bit start end (sparse_pairs stored_ones l start end)) (sym are)
      (sparse_ones m.column_order m.columns_in_order start end bit stored_ones (m.sparse row [] within) (omega (arith, before, m.boundary_within, m.width_within))
      (λ k below.
      bit-before m.width m.boundary m.rows.items m.row_order m.column_order m.tail i k (omega (arith, before))
      ∙ ap (λ r. listed_bit (get_or m.rows.items r []) (get_or m.column_order.order k 0)) (sym stored))))

-- ---- what holds of a matrix that has other rows or orders

abbrev pub IsMatrixOf : ℕ → ℕ → ℕ → List (List ℕ) → Tail → Order → Order → Option (List (List ℕ)) → Type 0
IsMatrixOf height width boundary rows tail row_order column_order index = record {
  rows_fit : length rows < 2 ^ 31;
  columns_fit : length column_order.order < 65536;
  height_within : height ≤ length rows;
  width_within : width ≤ length column_order.order;
  boundary_within : boundary ≤ width;
  ordered : length row_order.order ≡ length rows;
  rows_in_order : IsPlacedOrder row_order;
  columns_in_order : IsPlacedOrder column_order;
  sparse : All (IsSparseRow (length column_order.order)) rows;
  tail_rows : tail.rows ≡ length rows;
  tail_columns : tail.columns ≡ width - boundary;
  index_is : ForSome index (IsColumnIndex (length column_order.order) rows);
}

module _ (m : SparseBinaryMatrix) where
  pub with_rows : (rows : List (List ℕ)) (tail : Tail) → is_some m.index ≡ false → length m.rows.items ≡ length rows → All (IsSparseRow (length m.column_order.order)) rows → tail.rows ≡ m.tail.rows → tail.columns ≡ m.tail.columns
      → IsMatrixOf m.height m.width m.boundary rows tail m.row_order m.column_order m.index
  with_rows rows tail off long sparse same_rows same_columns = record {
    rows_fit = subst (λ n. n < 2 ^ 31) long m.rows_fit;
    columns_fit = m.columns_fit;
    height_within = subst (λ n. m.height ≤ n) long m.height_within;
    width_within = m.width_within;
    boundary_within = m.boundary_within;
    ordered = m.ordered ∙ long;
    rows_in_order = m.rows_in_order;
    columns_in_order = m.columns_in_order;
    sparse = sparse;
    tail_rows = same_rows ∙ m.tail_rows ∙ long;
    tail_columns = same_columns ∙ m.tail_columns;
    index_is = λ lists is. absurd (let on = ap is_some is in cc);
  }

  -- one stored row had a bit set, or is as it was
  pub with_row_set : {E : Type 0} → is_some m.index ≡ false → (row : ℕ) → row < length m.rows.items → (old new : List ℕ) → old ≡ get_or m.rows.items row old → (column octet : ℕ) (result : Result (Unit {0}) E) → column < length m.column_order.order
      → OnOk result (SetsListed old column octet new) → OnErr result (new ≡ old) → IsStrictlyIncreasing new → IsMatrixOf m.height m.width m.boundary (set m.rows.items row new) m.tail m.row_order m.column_order m.index
  with_row_set off row within old new is column octet result in_columns sets same rises =
      let columns = length m.column_order.order in
      let was = subst (IsSparseRow columns) (sym (get_or_read m.rows.items row old within is [])) (m.sparse row [] within) in
      let now = row_set columns old new column octet result was in_columns sets same rises in
      with_rows (set m.rows.items row new) m.tail off (sym (length-set m.rows.items row new)) (All-set (IsSparseRow columns) m.rows.items row new now m.sparse) refl refl

  pub with_orders : (row_order column_order : Order) → IsPlacedOrder row_order → IsPlacedOrder column_order → length row_order.order ≡ length m.row_order.order → length column_order.order ≡ length m.column_order.order
      → IsMatrixOf m.height m.width m.boundary m.rows.items m.tail row_order column_order m.index
  with_orders row_order column_order is_rows is_columns rows columns = record {
    rows_fit = m.rows_fit;
    columns_fit = subst (λ n. n < 65536) (sym columns) m.columns_fit;
    height_within = m.height_within;
    width_within = subst (λ n. m.width ≤ n) (sym columns) m.width_within;
    boundary_within = m.boundary_within;
    ordered = rows ∙ m.ordered;
    rows_in_order = is_rows;
    columns_in_order = is_columns;
    sparse = subst (λ n. All (IsSparseRow n) m.rows.items) (sym columns) m.sparse;
    tail_rows = m.tail_rows;
    tail_columns = m.tail_columns;
    index_is = λ lists is. subst (λ n. IsColumnIndex n m.rows.items lists) (sym columns) (m.index_is lists is);
  }
