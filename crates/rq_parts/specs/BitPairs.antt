-- The columns of a row of bits, each with its bit.
use Rattle.std.specs.Prelude.{Bool, ℕ, zero, suc, ◌+◌, ◌-◌, ◌*◌, ◌==◌, List, [], ◌∷◌, filter, map, drop, slice_index, not, nat_lt, ◌&&◌}
use Rattle.rq_bytes.specs.BinaryOctetVec.{packed_bit}

-- `count` columns from `column` on, with the bits of packed words from bit `bit` on
unfoldable pub bit_pairs : List ℕ → ℕ → ℕ → ℕ → List (ℕ × ℕ)
bit_pairs words bit column zero = []
bit_pairs words bit column (suc count) = (column, packed_bit words bit) ∷ bit_pairs words (suc bit) (suc column) count

-- those whose bit is one
abbrev pub ones_among : List (ℕ × ℕ) → List (ℕ × ℕ)
ones_among pairs = filter (λ p. p.1 == 1) pairs

-- the words from one on, what is left of that one being known
abbrev pub from_word : List ℕ → ℕ → ℕ → List ℕ
from_word words word bits = bits ∷ drop (word + 1) words

-- the ones that these have before an end
abbrev pub ones_from : List ℕ → ℕ → ℕ → ℕ → List (ℕ × ℕ)
ones_from words end word bits = ones_among (bit_pairs (from_word words word bits) 0 (64 * word) (end - 64 * word))

-- whether a place is in a range
abbrev pub in_range : ℕ → ℕ → ℕ → Bool
in_range start end place = not (nat_lt place start) && nat_lt place end

-- the columns that a list has for the ones of a row, as far as they lie in a range, each with the octet 1
abbrev pub sparse_pairs : List ℕ → List ℕ → ℕ → ℕ → List (ℕ × ℕ)
sparse_pairs ones columns start end = filter (λ p. in_range start end p.0) (map (λ one. (slice_index columns one, 1)) ones)
