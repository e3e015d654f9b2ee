-- The rows of bits on the way to the matrix of a block.
use Rattle.std.specs.Prelude.{◌≡◌, ◌≢◌, ℕ, ◌<◌, ◌≤◌, List}
use Rattle.rq_algebra.specs.Parities.{parity}
use Rattle.rq_standard.specs.declared.row.TableRow.{TableRow}
use Rattle.rq_standard.specs.BitTable.{BitTable}
use Rattle.rq_standard.specs.BitTableSteps.{HasSameShape}
use Rattle.rq_standard.specs.ConstraintMatrix.{HasRows}
use Rattle.rq_standard.specs.TableRows.{intermediate_symbols, b_of}
use Rattle.rq_standard.specs.Equations.{one_if, is_ldpc_row, ldpc_coefficient}

-- no ones from a row on
abbrev pub IsZeroFrom : TableRow → ℕ → BitTable → Type 0
IsZeroFrom row first m = (i k : ℕ) → first ≤ i → i < m.height → k < intermediate_symbols row → m.bit i k ≡ 0

-- G_LDPC,1 so far: the LDPC rows have the first `columns` columns, and nothing else is set
pub record HasLdpc1Columns (row : TableRow) (rows columns : ℕ) (m : BitTable) : Type 0 where
  pub shape : HasRows row rows m
  pub done : (i k : ℕ) → i < row.ldpc_symbols → k < columns → m.bit i k ≡ one_if (is_ldpc_row row i k)
  pub right : (i k : ℕ) → i < row.ldpc_symbols → columns ≤ k → k < intermediate_symbols row → m.bit i k ≡ 0
  pub below : IsZeroFrom row row.ldpc_symbols m

-- the first rows are LDPC rows, the others have the columns of G_LDPC,1, and nothing else is set
pub record HasLdpcRows (row : TableRow) (rows done : ℕ) (m : BitTable) : Type 0 where
  pub shape : HasRows row rows m
  pub whole : (i k : ℕ) → i < done → k < intermediate_symbols row → m.bit i k ≡ ldpc_coefficient row i k
  pub left : (i k : ℕ) → done ≤ i → i < row.ldpc_symbols → k < b_of row → m.bit i k ≡ one_if (is_ldpc_row row i k)
  pub right : (i k : ℕ) → done ≤ i → i < row.ldpc_symbols → b_of row ≤ k → k < intermediate_symbols row → m.bit i k ≡ 0
  pub below : IsZeroFrom row row.ldpc_symbols m

-- in one row, the bits are how often each index is listed, modulo 2; the other rows are as they were
pub record SetsParityRow (old : BitTable) (i : ℕ) (indices : List ℕ) (new : BitTable) : Type 0 where
  pub shape : HasSameShape old new
  pub here : (k : ℕ) → k < old.width → new.bit i k ≡ parity indices k
  pub other_rows : (a k : ℕ) → a < old.height → k < old.width → a ≢ i → new.bit a k ≡ old.bit a k
