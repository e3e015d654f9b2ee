-- The table of systematic indices and parameters (RFC 6330, section 5.6): a row's sizes, the checks that a row passes, and the tables that may be used.
use Rattle.std.specs.Prelude.{◌≡◌, ℕ, ◌+◌, ◌-◌, ◌*◌, ◌%◌, ◌<◌, ◌≤◌, min, Bool, false, not, ◌&&◌, if◌then◌else◌, ◌==◌, nat_lt, nat_le, List, [], ◌∷◌, slice_get, Option, None, Some, take}
use Rattle.rq_standard.specs.declared.row.TableRow.{TableRow}
use Rattle.rq_standard.specs.declared.systematic_indices.TheConstants.{SYSTEMATIC_INDICES_AND_PARAMETERS}
use Rattle.rq_standard.specs.declared.p1_table.TheConstants.{P1_TABLE}

-- ---- sizes

-- L, the number of intermediate symbols
abbrev pub intermediate_symbols : TableRow → ℕ
intermediate_symbols row = row.extended_symbols + row.ldpc_symbols + row.hdpc_symbols

-- P, the number of PI symbols: the intermediate symbols that are no LT symbols
abbrev pub pi_symbols : TableRow → ℕ
pi_symbols row = intermediate_symbols row - row.lt_symbols

-- B, the number of LT symbols that are no LDPC symbols
abbrev pub b_of : TableRow → ℕ
b_of row = row.lt_symbols - row.ldpc_symbols

-- ---- the seven checks

-- 1: K' and P1 are those at the row's place in `P1_TABLE`
abbrev pub has_size : Option (ℕ × ℕ) → TableRow → Bool
has_size None row = false
has_size (Some size) row = row.extended_symbols == size.0 && row.p1 == size.1

-- 2: S is odd
abbrev pub is_odd : TableRow → Bool
is_odd row = row.ldpc_symbols % 2 == 1

-- 3: 1 <= B <= S*(S-1) and B <= K'
abbrev pub fits_ldpc : TableRow → Bool
fits_ldpc row = nat_le 1 (b_of row) && nat_le (b_of row) (row.ldpc_symbols * (row.ldpc_symbols - 1)) && nat_le (b_of row) row.extended_symbols

-- 4: 2 <= H <= min(K', 255)
abbrev pub fits_hdpc : TableRow → Bool
fits_hdpc row = nat_le 2 row.hdpc_symbols && nat_le row.hdpc_symbols (min row.extended_symbols 255)

-- 5: 3 <= P <= P1 <= 2*P
abbrev pub fits_pi : TableRow → Bool
fits_pi row = nat_le 3 (pi_symbols row) && nat_le (pi_symbols row) row.p1 && nat_le row.p1 (2 * pi_symbols row)

-- 6: L < 65536
abbrev pub fits_columns : TableRow → Bool
fits_columns row = nat_lt (intermediate_symbols row) 65536

-- 7: J <= 1000
abbrev pub fits_index : TableRow → Bool
fits_index row = nat_le row.systematic_index 1000

-- the first of the checks that a row fails at a place of a table
unfoldable pub first_failing_check : ℕ → TableRow → Option ℕ
first_failing_check place row =
    if not (has_size (slice_get P1_TABLE place) row) then Some 1
    else if not (is_odd row) then Some 2
    else if not (fits_ldpc row) then Some 3
    else if not (fits_hdpc row) then Some 4
    else if not (fits_pi row) then Some 5
    else if not (fits_columns row) then Some 6
    else if not (fits_index row) then Some 7
    else None

-- what checks 2 to 7 say of a row
pub record IsChecked (row : TableRow) : Type 0 where
  pub odd : row.ldpc_symbols % 2 ≡ 1
  pub some_b : 1 ≤ b_of row
  pub few_b : b_of row ≤ row.ldpc_symbols * (row.ldpc_symbols - 1)
  pub b_below : b_of row ≤ row.extended_symbols
  pub two_hdpc : 2 ≤ row.hdpc_symbols
  pub hdpc_below : row.hdpc_symbols ≤ row.extended_symbols
  pub few_hdpc : row.hdpc_symbols ≤ 255
  pub three_pi : 3 ≤ pi_symbols row
  pub p1_above : pi_symbols row ≤ row.p1
  pub p1_near : row.p1 ≤ 2 * pi_symbols row
  pub few_columns : intermediate_symbols row < 65536
  pub small_index : row.systematic_index ≤ 1000

-- ---- tables

-- the numbers of a row as they are handed in: K', J, S, H, W
abbrev pub RowNumbers : Type 0
RowNumbers = ℕ × ℕ × ℕ × ℕ × ℕ

-- the P1 of a size, or 0 where there is no size
abbrev pub p1_of : Option (ℕ × ℕ) → ℕ
p1_of None = 0
p1_of (Some size) = size.1

-- the row that numbers make at a place of a table, which decides its P1
abbrev pub row_of_numbers : ℕ → RowNumbers → TableRow
row_of_numbers place numbers = record {
  extended_symbols = numbers.0;
  systematic_index = numbers.1;
  ldpc_symbols = numbers.2;
  hdpc_symbols = numbers.3;
  lt_symbols = numbers.4;
  p1 = p1_of (slice_get P1_TABLE place);
}

-- the rows that numbers make from a place of a table on
unfoldable pub rows_from : ℕ → List RowNumbers → List TableRow
rows_from place [] = []
rows_from place (numbers ∷ rest) = row_of_numbers place numbers ∷ rows_from (place + 1) rest

-- the rows that each table begins with
unfoldable pub built_in_rows : List TableRow
built_in_rows = rows_from 0 SYSTEMATIC_INDICES_AND_PARAMETERS

-- a failing check of numbers at a place, or else what comes after them
abbrev pub first_failure : Option ℕ → ℕ → Option (ℕ × ℕ) → Option (ℕ × ℕ)
first_failure None place later = later
first_failure (Some check) place later = Some (place, check)

-- of numbers handed in after the built-in ones, the first that make a row that fails a check: their place among those handed in, and that check
unfoldable pub first_refused : ℕ → List RowNumbers → Option (ℕ × ℕ)
first_refused place [] = None
first_refused place (numbers ∷ rest) =
    first_failure (first_failing_check (74 + place) (row_of_numbers (74 + place) numbers)) place (first_refused (place + 1) rest)

-- A checked table: the built-in rows, and then rows that pass all checks at their places.
pub record IsTable (rows : List TableRow) : Type 0 where
  pub built_in_first : take 74 rows ≡ built_in_rows
  pub passes : (place : ℕ) (row : TableRow) → slice_get rows place ≡ Some row → first_failing_check place row ≡ None

-- the greatest size of a table
unfoldable pub greatest_size : List TableRow → ℕ
greatest_size [] = 0
greatest_size (row ∷ []) = row.extended_symbols
greatest_size (row ∷ rows) = greatest_size rows

-- what stands where there is no row
abbrev pub no_row : TableRow
no_row = record { extended_symbols = 0; systematic_index = 0; ldpc_symbols = 0; hdpc_symbols = 0; lt_symbols = 0; p1 = 0 }

-- the row of a block of k symbols: the first whose size is at least k
unfoldable pub row_of : List TableRow → ℕ → TableRow
row_of [] k = no_row
row_of (row ∷ rows) k = if nat_le k row.extended_symbols then row else row_of rows k

-- the first size of a list that is at least k
abbrev pub first_size : ℕ → List (ℕ × ℕ) → Option ℕ
first_size k [] = None
first_size k (size ∷ sizes) = if nat_le k size.0 then Some size.0 else first_size k sizes

-- the least size of at least k symbols that a table can have
unfoldable pub extended_size : ℕ → Option ℕ
extended_size k = first_size k P1_TABLE
