-- The rows that a solver is handed are the equations of the standard.
use Rattle.std.proofs.Common.{◌≤◌, ◌≡◌, ℕ, ◌+◌, ◌-◌, List, length, sym, subst, arith}
use Rattle.rq_standard.specs.declared.row.TableRow.{TableRow}
use Rattle.rq_standard.specs.BitTable.{BitTable}
use Rattle.rq_standard.specs.ConstraintMatrix.{with_octet_rows, HasRows, IsBinaryPart, AreHdpcRows}
use Rattle.rq_standard.specs.Equations.{equations, equation_count}
use Rattle.rq_standard.specs.TableRows.{intermediate_symbols}
use Rattle.rq_parts.specs.DenseOctetMatrix.{OctetTable, entry_of}
use Rattle.rq_solver.specs.Solving.{AreEquations, AreEquationsWithoutHdpc}
use Rattle.rq_elimination.proofs.RowStepLaws.{SameEntries}

-- with the HDPC rows of a block in their places the rows of its matrix of bits are its equations
pub equations_same : (row : TableRow) (ids : List ℕ) (bits : BitTable) (hdpc : OctetTable) → IsBinaryPart row ids bits → AreHdpcRows row (entry_of hdpc)
    → SameEntries (equation_count row ids) (intermediate_symbols row) (with_octet_rows row.ldpc_symbols row.hdpc_symbols bits.bit (entry_of hdpc))
    (equations row ids)
equations_same row ids bits hdpc part are_hdpc i k l m =
    let below : ℕ = row.ldpc_symbols + row.hdpc_symbols in
    grind (arith, l, m, part.ldpc i k, are_hdpc (i - row.ldpc_symbols) k, part.symbols (i - below) k)

-- what a solver asks of a matrix of bits
pub binary_equations : (row : TableRow) (bits : BitTable) (count : ℕ) → HasRows row count bits → intermediate_symbols row ≤ count
    → AreEquationsWithoutHdpc row bits
binary_equations row bits count shape enough = record {
  shape = subst (λ n. HasRows row n bits) (sym shape.height) shape;
  enough = rw shape.height enough;
}

-- and of both matrices, from what their generator says of them
pub are_equations : (row : TableRow) (ids : List ℕ) (bits : BitTable) (hdpc : OctetTable) → IsBinaryPart row ids bits
    → length hdpc.rows ≡ row.hdpc_symbols → hdpc.width ≡ intermediate_symbols row → intermediate_symbols row ≤ equation_count row ids
    → AreEquations row bits hdpc
are_equations row ids bits hdpc part rows columns enough = record {
  binary = binary_equations row bits (equation_count row ids) part.shape enough;
  hdpc_height = rows;
  hdpc_width = columns;
  zeros = λ i k l m. part.zeros (row.ldpc_symbols + i) k (omega arith) (omega arith) m;
}

-- without HDPC rows the rows are those of bits
bit_row_alone : (bits entry : ℕ → ℕ → ℕ) (i : ℕ) → with_octet_rows 0 0 bits entry i ≡ bits i
bit_row_alone bits entry i = grind arith

pub bits_alone : (bits entry : ℕ → ℕ → ℕ) → with_octet_rows 0 0 bits entry ≡ bits
bits_alone bits entry = λ p i. bit_row_alone bits entry i p
