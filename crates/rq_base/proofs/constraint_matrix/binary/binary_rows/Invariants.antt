use Rattle.std.proofs.Common.{◌≡◌, ℕ, ◌+◌, ◌<◌, ◌≤◌, List, length}
use Rattle.rq_algebra.specs.Systems.{at}
use Rattle.rq_standard.specs.declared.row.TableRow.{TableRow}
use Rattle.rq_standard.specs.BitTable.{BitTable}
use Rattle.rq_standard.specs.ConstraintMatrix.{HasRows}
use Rattle.rq_standard.specs.TableRows.{intermediate_symbols}
use Rattle.rq_standard.specs.Equations.{ldpc_coefficient, symbol_coefficient}
use Rattle.rq_base.specs.BinaryRows.{IsZeroFrom}
use Rattle.rq_base.proofs.constraint_matrix.binary.binary_rows.Given as goal

-- the LDPC rows, and from row `first` on a row for each of the first `done` ids; the other rows are zeros
pub record HasSymbolRows (row : TableRow) (first : ℕ) (ids : List ℕ) (done : ℕ) (m : BitTable) : Type 0 where
  pub shape : HasRows row (first + length ids) m
  pub ldpc : (i k : ℕ) → i < row.ldpc_symbols → k < intermediate_symbols row → m.bit i k ≡ ldpc_coefficient row i k
  pub zeros : (i k : ℕ) → row.ldpc_symbols ≤ i → i < first → k < intermediate_symbols row → m.bit i k ≡ 0
  pub symbols : (i k : ℕ) → i < done → k < intermediate_symbols row → m.bit (first + i) k ≡ symbol_coefficient row (at ids i) k
  pub rest : IsZeroFrom row (first + done) m

abbrev pub invariant-loop-i : goal.invariant-loop-i
invariant-loop-i g l = HasSymbolRows l.row.numbers l.first_symbol_row l.internal_symbol_ids l.i (g.T.BinaryMatrix.content l.matrix)
