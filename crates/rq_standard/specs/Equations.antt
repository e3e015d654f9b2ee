-- The equations that decide the intermediate symbols of a block (RFC 6330, sections 5.3.3.3, 5.3.3.4 and 5.3.5.3), over a row of the table.
use Rattle.std.specs.Prelude.{ℕ, ◌+◌, ◌-◌, ◌*◌, ◌/◌, ◌%◌, Bool, true, false, ◌||◌, if◌then◌else◌, ◌==◌, nat_lt, nat_le, List, length, replicate, slice_index_or}
use Rattle.std.specs.List.{range_with_len}
use Rattle.rq_algebra.specs.Systems.{sum_below, stacked, rows_of}
use Rattle.rq_algebra.specs.Parities.{sum_listed, parity}
use Rattle.rq_algebra.specs.Symbols.{symbols}
use Rattle.rq_standard.specs.declared.row.TableRow.{TableRow}
use Rattle.rq_standard.specs.OctetField.{octets}
use Rattle.rq_standard.specs.Octets.{octet_power}
use Rattle.rq_standard.specs.Rand.{rand}
use Rattle.rq_standard.specs.Tuple.{tuple_of, enc_indices}
use Rattle.rq_standard.specs.TableRows.{pi_symbols, b_of}

-- the coefficient 1 or 0
abbrev pub one_if : Bool → ℕ
one_if true = 1
one_if false = 0

-- ---- LDPC

-- a of symbol i
abbrev pub ldpc_step : TableRow → ℕ → ℕ
ldpc_step row i = 1 + i / row.ldpc_symbols

-- equation m has symbol i, one of the first B, where m is i, i+a or i+2a modulo S
abbrev pub is_ldpc_row : TableRow → ℕ → ℕ → Bool
is_ldpc_row row m i =
    m == i % row.ldpc_symbols || m == (i + ldpc_step row i) % row.ldpc_symbols || m == (i + 2 * ldpc_step row i) % row.ldpc_symbols

-- The coefficient of intermediate symbol k in LDPC equation m, below S: the first B symbols by `is_ldpc_row`, LDPC symbol m, and two PI symbols.
unfoldable pub ldpc_coefficient : TableRow → ℕ → ℕ → ℕ
ldpc_coefficient row m k =
    if nat_lt k (b_of row) then one_if (is_ldpc_row row m k)
    else if nat_lt k row.lt_symbols then one_if (k == b_of row + m)
    else one_if (k == row.lt_symbols + m % pi_symbols row || k == row.lt_symbols + (m + 1) % pi_symbols row)

-- ---- HDPC

-- K' + S, the symbols before the HDPC symbols
abbrev pub before_hdpc : TableRow → ℕ
before_hdpc row = row.extended_symbols + row.ldpc_symbols

-- row i and column j of MT
unfoldable pub mt : TableRow → ℕ → ℕ → ℕ
mt row i j =
    let first = rand (j + 1) 6 row.hdpc_symbols in
    let second = (first + rand (j + 1) 7 (row.hdpc_symbols - 1) + 1) % row.hdpc_symbols in
    if j == before_hdpc row - 1 then octet_power i else one_if (i == first || i == second)

-- row i and column j of GAMMA
unfoldable pub gamma : ℕ → ℕ → ℕ
gamma i j = if nat_le j i then octet_power (i - j) else 0

-- The coefficient of intermediate symbol k in HDPC equation i, below H: that of the product of MT and GAMMA, and HDPC symbol i.
unfoldable pub hdpc_coefficient : TableRow → ℕ → ℕ → ℕ
hdpc_coefficient row i k =
    if nat_lt k (before_hdpc row) then sum_below octets (before_hdpc row) (λ j. octets.mul (mt row i j) (gamma j k))
    else one_if (k == before_hdpc row + i)

-- ---- symbols

-- the indices of internal symbol id x
abbrev pub row_indices : TableRow → ℕ → List ℕ
row_indices row x = enc_indices row.lt_symbols (pi_symbols row) row.p1 (tuple_of row.lt_symbols row.systematic_index row.p1 x)

-- the coefficient of intermediate symbol k in the symbol of internal symbol id x: an index that is listed twice cancels
abbrev pub symbol_coefficient : TableRow → ℕ → ℕ → ℕ
symbol_coefficient row x k = parity (row_indices row x) k

-- Enc of internal symbol id x: the sum of the intermediate symbols at its indices
abbrev pub tuple_sum : TableRow → (ℕ → List ℕ) → ℕ → List ℕ
tuple_sum row column x = sum_listed (symbols octets) (row_indices row x) column

-- ---- systems

-- the equations without an id: S LDPC and H HDPC ones
abbrev pub precode_equations : TableRow → ℕ → ℕ → ℕ
precode_equations row = stacked row.ldpc_symbols (ldpc_coefficient row) (hdpc_coefficient row)

-- the equations of a list of internal symbol ids: those, and then one for each id
abbrev pub equations : TableRow → List ℕ → ℕ → ℕ → ℕ
equations row ids = stacked (row.ldpc_symbols + row.hdpc_symbols) (precode_equations row) (rows_of (symbol_coefficient row) ids)

-- how many equations there are
abbrev pub equation_count : TableRow → List ℕ → ℕ
equation_count row ids = row.ldpc_symbols + row.hdpc_symbols + length ids

-- the internal symbol ids of an extended source block: its source and padding symbols
abbrev pub extended_ids : TableRow → List ℕ
extended_ids row = range_with_len 0 row.extended_symbols

-- the symbol of zeros
abbrev pub zero_symbol : ℕ → List ℕ
zero_symbol size = replicate {A = ℕ} size 0

-- what the equations of symbols are equal to: zeros, and then the symbols; past their end there is padding
abbrev pub equation_values : TableRow → ℕ → List (List ℕ) → ℕ → List ℕ
equation_values row size carried = stacked (row.ldpc_symbols + row.hdpc_symbols) (λ _. zero_symbol size) (λ i. slice_index_or carried i (zero_symbol size))

-- the internal symbol id of an encoding symbol id, in a block of k source symbols over a row: padding symbols have no encoding symbol id
abbrev pub internal_id : TableRow → ℕ → ℕ → ℕ
internal_id row k esi = if nat_lt esi k then esi else esi + row.extended_symbols - k
