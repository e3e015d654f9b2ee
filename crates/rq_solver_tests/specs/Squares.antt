-- The matrices of the tests.
use Rattle.std.specs.Prelude.{◌≡◌, ℕ, ◌+◌, ◌<◌}
use Rattle.rq_standard.specs.declared.row.TableRow.{TableRow}
use Rattle.rq_standard.specs.BitTable.{BitTable}
use Rattle.rq_standard.specs.ConstraintMatrix.{HasRows}
use Rattle.rq_standard.specs.TableRows.{intermediate_symbols}

-- as many equations as intermediate symbols, the columns of a row of the table, and no index
abbrev pub IsSquareOf : TableRow → BitTable → Type 0
IsSquareOf row bits = HasRows row (intermediate_symbols row) bits

-- n rows from a first one on are zeros
abbrev pub HasZeroRows : TableRow → BitTable → ℕ → ℕ → Type 0
HasZeroRows row bits first n = (i k : ℕ) → i < n → k < intermediate_symbols row → bits.bit (first + i) k ≡ 0
