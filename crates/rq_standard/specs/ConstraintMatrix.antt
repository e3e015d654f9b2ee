-- The equations of a block as a solver is handed them: a matrix of bits, and beside it one of octets for the HDPC equations.
use Rattle.std.specs.Prelude.{◌≡◌, ℕ, ◌+◌, ◌<◌, ◌≤◌, false, List, length}
use Rattle.rq_algebra.specs.Systems.{at, stacked}
use Rattle.rq_standard.specs.declared.row.TableRow.{TableRow}
use Rattle.rq_standard.specs.BitTable.{BitTable}
use Rattle.rq_standard.specs.TableRows.{intermediate_symbols}
use Rattle.rq_standard.specs.Equations.{ldpc_coefficient, hdpc_coefficient, symbol_coefficient}

-- the rows of bits, but in rows `first` to `first + count - 1` those of octets
abbrev pub with_octet_rows : ℕ → ℕ → (ℕ → ℕ → ℕ) → (ℕ → ℕ → ℕ) → ℕ → ℕ → ℕ
with_octet_rows first count bits octet_rows = stacked first bits (stacked count octet_rows (λ i. bits (first + count + i)))

-- `rows` rows of L columns, of which the LT symbols' ones aren't dense, and none is indexed
pub record HasRows (row : TableRow) (rows : ℕ) (m : BitTable) : Type 0 where
  pub height : m.height ≡ rows
  pub width : m.width ≡ intermediate_symbols row
  pub boundary : m.boundary ≡ row.lt_symbols
  pub indexed : m.indexed ≡ false

-- a row of bits for each internal symbol id of a list, from row `first` on; before them are the LDPC rows, and zeros behind these
pub record HasBinaryRows (row : TableRow) (first : ℕ) (ids : List ℕ) (m : BitTable) : Type 0 where
  pub shape : HasRows row (first + length ids) m
  pub ldpc : (i k : ℕ) → i < row.ldpc_symbols → k < intermediate_symbols row → m.bit i k ≡ ldpc_coefficient row i k
  pub zeros : (i k : ℕ) → row.ldpc_symbols ≤ i → i < first → k < intermediate_symbols row → m.bit i k ≡ 0
  pub symbols : (i k : ℕ) → i < length ids → k < intermediate_symbols row → m.bit (first + i) k ≡ symbol_coefficient row (at ids i) k

-- the matrix of bits of a list of internal symbol ids, with as many rows of zeros as there are HDPC rows
abbrev pub IsBinaryPart : TableRow → List ℕ → BitTable → Type 0
IsBinaryPart row ids m = HasBinaryRows row (row.ldpc_symbols + row.hdpc_symbols) ids m

-- the matrix of bits without rows for the HDPC equations
abbrev pub IsBinaryPartWithoutHdpc : TableRow → List ℕ → BitTable → Type 0
IsBinaryPartWithoutHdpc row ids m = HasBinaryRows row row.ldpc_symbols ids m

-- the HDPC rows
abbrev pub AreHdpcRows : TableRow → (ℕ → ℕ → ℕ) → Type 0
AreHdpcRows row entry = (i k : ℕ) → i < row.hdpc_symbols → k < intermediate_symbols row → entry i k ≡ hdpc_coefficient row i k
