-- What callers see of a sparse matrix of bits.
use Rattle.std.specs.Prelude.{◌≡◌, ℕ, ◌-◌, List, [], is_some, nat_lt, slice_index, slice_index_or, if◌then◌else◌}
use Rattle.rq_standard.specs.BitTable.{BitTable}
use Rattle.rq_parts.specs.SparseBinaryVec.{listed_bit}
use Rattle.rq_matrix.specs.DenseTails.{Tail, tail_bit}
use Rattle.rq_matrix.specs.Orders.{Order}
use Rattle.rq_matrix.specs.declared.sparse_matrix.SparseBinaryMatrix.{SparseBinaryMatrix}

-- the bit of a stored row in column k: before the boundary that of a stored column, and from it on that of the dense columns, of which the last is the first
abbrev pub row_bit : ℕ → ℕ → List (List ℕ) → Order → Tail → ℕ → ℕ → ℕ
row_bit width boundary rows column_order tail row k =
    if nat_lt k boundary then listed_bit (slice_index_or rows row []) (slice_index column_order.order k) else tail_bit tail row (width - 1 - k)

-- the bit in row i and column k
abbrev pub sparse_bit : ℕ → ℕ → List (List ℕ) → Order → Order → Tail → ℕ → ℕ → ℕ
sparse_bit width boundary rows row_order column_order tail i k = row_bit width boundary rows column_order tail (slice_index row_order.order i) k

abbrev pub sparse_content : SparseBinaryMatrix → BitTable
sparse_content m = record {
  height = m.height;
  width = m.width;
  boundary = m.boundary;
  indexed = is_some m.index;
  bit = sparse_bit m.width m.boundary m.rows.items m.row_order m.column_order m.tail;
}

-- a matrix each of whose parts is equal to that of another one
pub record IsSparseCopy (old new : SparseBinaryMatrix) : Type 0 where
  pub height : new.height ≡ old.height
  pub width : new.width ≡ old.width
  pub boundary : new.boundary ≡ old.boundary
  pub rows : new.rows.items ≡ old.rows.items
  pub tail : new.tail ≡ old.tail
  pub row_order : new.row_order ≡ old.row_order
  pub column_order : new.column_order ≡ old.column_order
  pub index : new.index ≡ old.index
