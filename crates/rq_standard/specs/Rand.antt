-- The random generator (RFC 6330, section 5.3.5.1).
use Rattle.std.specs.Prelude.{ℕ, ◌+◌, ◌/◌, ◌%◌, ◌^◌, List, slice_index}
use Rattle.std.specs.Int.Bits.{bit_xor}
use Rattle.rq_standard.specs.declared.random_numbers.TheConstants.{V0, V1, V2, V3}

-- the entry of a table of 256 numbers that y and i choose
abbrev pub chosen_entry : List ℕ → ℕ → ℕ → ℕ
chosen_entry table y i = slice_index table ((y + i) % 256)

-- Rand[y, i, m]: a number below m
unfoldable pub rand : ℕ → ℕ → ℕ → ℕ
rand y i m =
    bit_xor (bit_xor (bit_xor (chosen_entry V0 y i) (chosen_entry V1 (y / 2 ^ 8) i)) (chosen_entry V2 (y / 2 ^ 16) i)) (chosen_entry V3 (y / 2 ^ 24) i) % m
