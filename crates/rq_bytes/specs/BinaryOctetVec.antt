-- What the words of a `BinaryOctetVec` hold: element i of a row of n stands at bit `padding_of n` + i, counted from the lowest bit of
-- the first word on. The bits before it are no elements.
use Rattle.std.specs.Prelude.{ℕ, ◌+◌, ◌-◌, ◌/◌, ◌%◌, List, map, slice_index}
use Rattle.std.specs.Int.{bit_at}
use Rattle.std.specs.List.{range_with_len}

-- how many bits stand before the first element of a row of n, which ends where its last word ends
abbrev pub padding_of : ℕ → ℕ
padding_of n = (64 - n % 64) % 64

-- one bit, counted from the lowest of the first word
abbrev pub packed_bit : List ℕ → ℕ → ℕ
packed_bit words j = bit_at (slice_index words (j / 64)) (j % 64)

-- the row of n elements
unfoldable pub packed_bits : List ℕ → ℕ → List ℕ
packed_bits words n = map (λ i. packed_bit words (padding_of n + i)) (range_with_len 0 n)

-- the first bits as octets
abbrev pub octets_of_bits : ℕ → List ℕ → List ℕ
octets_of_bits n bits = map (packed_bit bits) (range_with_len 0 n)
