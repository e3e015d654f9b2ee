-- How an object is cut by default (RFC 6330, section 4.3), for a transfer length F, a packet size s and a decoder's memory M, all in bytes.
use Rattle.std.specs.Prelude.{◌≡◌, ℕ, zero, suc, ◌+◌, ◌-◌, ◌*◌, ◌/◌, ◌%◌, ◌<◌, ◌≤◌, max, Bool, true, false, if◌then◌else◌, nat_le, List, [], ◌∷◌}
use Rattle.std.specs.Int.{div_ceil}
use Rattle.rq_standard.specs.declared.row.TableRow.{TableRow}
use Rattle.rq_standard.specs.Configuration.{Configuration}

-- the greatest size of a table's rows that is at most the limit, or 0 where there is none
unfoldable pub greatest_within : ℕ → List TableRow → ℕ
greatest_within limit [] = 0
greatest_within limit (row ∷ rows) =
    if nat_le row.extended_symbols limit then max row.extended_symbols (greatest_within limit rows) else greatest_within limit rows

-- Al
abbrev pub alignment_for : ℕ → ℕ
alignment_for s = if nat_le 64 s then 8 else 1

-- the least size of a sub-symbol, in units of the alignment
abbrev pub least_sub_symbol : ℕ → ℕ
least_sub_symbol s = if nat_le 64 s then 8 else 1

-- T: the packet size, cut to a multiple of the alignment
abbrev pub symbol_size_for : ℕ → ℕ
symbol_size_for s = s - s % alignment_for s

-- the greatest number of sub-blocks
abbrev pub most_sub_blocks : ℕ → ℕ
most_sub_blocks s = symbol_size_for s / (least_sub_symbol s * alignment_for s)

-- KL(n): the greatest size of a block whose sub-blocks fit the memory, where there are n of them; 0 where no row fits
abbrev pub fitting_block : List TableRow → ℕ → ℕ → ℕ → ℕ
fitting_block rows s memory n = greatest_within (memory / (alignment_for s * div_ceil (symbol_size_for s) (alignment_for s * n))) rows

-- Kt
abbrev pub symbols_for : ℕ → ℕ → ℕ
symbols_for length s = div_ceil length (symbol_size_for s)

-- Z
abbrev pub blocks_for : List TableRow → ℕ → ℕ → ℕ → ℕ
blocks_for rows length s memory = div_ceil (symbols_for length s) (fitting_block rows s memory (most_sub_blocks s))

-- whether a block of `symbols` symbols fits the memory with n sub-blocks
abbrev pub is_fitting : List TableRow → ℕ → ℕ → ℕ → ℕ → Bool
is_fitting rows s memory symbols n = nat_le symbols (fitting_block rows s memory n)

-- of the numbers from `start` on, as many as the third argument says, the least that passes the test, or else the next after them
unfoldable pub first_from : (ℕ → Bool) → ℕ → ℕ → ℕ
first_from test start zero = start
first_from test start (suc more) = if test start then start else first_from test (start + 1) more

-- N: the least number of sub-blocks, from 1, with which the largest block fits
unfoldable pub sub_blocks_for : List TableRow → ℕ → ℕ → ℕ → ℕ
sub_blocks_for rows length s memory =
    first_from (is_fitting rows s memory (div_ceil (symbols_for length s) (blocks_for rows length s memory))) 1 (most_sub_blocks s)

-- n is the least number, from 1, that passes the test
pub record IsLeast (test : ℕ → Bool) (n : ℕ) : Type 0 where
  pub from_one : 1 ≤ n
  pub passes : test n ≡ true
  pub least : (m : ℕ) → 1 ≤ m → m < n → test m ≡ false

-- the configuration
abbrev pub parameters_for : List TableRow → ℕ → ℕ → ℕ → Configuration
parameters_for rows length s memory = record {
  transfer_length = length;
  symbol_size = symbol_size_for s;
  source_blocks = blocks_for rows length s memory;
  sub_blocks = sub_blocks_for rows length s memory;
  alignment = alignment_for s;
}
