-- What the checks of a row give, as statements: functions of `tables` have them as contracts.
use Rattle.std.specs.Prelude.{◌≢◌, ℕ, ◌+◌, ◌*◌, ◌%◌, ◌<◌, ◌≤◌, List, All}
use Rattle.rq_standard.specs.declared.row.TableRow.{TableRow}
use Rattle.rq_standard.specs.TableRows.{IsChecked, IsTable, b_of, intermediate_symbols, greatest_size, row_of}
use Rattle.rq_standard.specs.Equations.{ldpc_step, row_indices}

-- a block that the greatest size holds has a checked row that is large enough
abbrev pub LookUpsAreChecked : Type 0
LookUpsAreChecked = (rows : List TableRow) (k : ℕ) → IsTable rows → k ≤ greatest_size rows → IsChecked (row_of rows k) × (k ≤ (row_of rows k).extended_symbols)

-- the three LDPC equations of one of the first B symbols are three
abbrev pub LdpcRowsAreThree : Type 0
LdpcRowsAreThree =
    (row : TableRow) (i : ℕ) → IsChecked row → i < b_of row
    → (i % row.ldpc_symbols ≢ (i + ldpc_step row i) % row.ldpc_symbols)
    × ((i + ldpc_step row i) % row.ldpc_symbols ≢ (i + 2 * ldpc_step row i) % row.ldpc_symbols)
    × (i % row.ldpc_symbols ≢ (i + 2 * ldpc_step row i) % row.ldpc_symbols)

-- each index of an internal symbol id is that of one of the L intermediate symbols
abbrev pub IndicesAreBelow : Type 0
IndicesAreBelow = (row : TableRow) (x : ℕ) → IsChecked row → All (λ k. k < intermediate_symbols row) (row_indices row x)
