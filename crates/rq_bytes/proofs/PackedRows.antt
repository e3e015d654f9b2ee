-- The elements of a packed row.
use Rattle.std.proofs.Common.{◌≡◌, ℕ, ◌+◌, ◌<◌, List, length, get_or, sym, ◌∙◌, arith}
use Rattle.std.proofs.lemmas.List.{ext_get_or}
use Rattle.std.proofs.lemmas.List.FromFn.{length-map-range_with_len, get_or-map-range_with_len}
use Rattle.rq_bytes.specs.BinaryOctetVec.{octets_of_bits, padding_of, packed_bit, packed_bits}

pub length-packed_bits : (words : List ℕ) (n : ℕ) → length (packed_bits words n) ≡ n
unfolding packed_bits
length-packed_bits words n = length-map-range_with_len (λ i. packed_bit words (padding_of n + i)) 0 n

pub get_or-packed_bits : (words : List ℕ) (n i : ℕ) → i < n → get_or (packed_bits words n) i 0 ≡ packed_bit words (padding_of n + i)
unfolding packed_bits
get_or-packed_bits words n i lt = get_or-map-range_with_len (λ k. packed_bit words (padding_of n + k)) 0 n i i 0 lt (omega arith)

-- ---- the first bits as octets

pub length-octets_of_bits : (n : ℕ) (bits : List ℕ) → length (octets_of_bits n bits) ≡ n
length-octets_of_bits n bits = length-map-range_with_len (packed_bit bits) 0 n

pub at-octets_of_bits : (n : ℕ) (bits : List ℕ) (k : ℕ) → k < n → get_or (octets_of_bits n bits) k 0 ≡ packed_bit bits k
at-octets_of_bits n bits k l = get_or-map-range_with_len (packed_bit bits) 0 n k k 0 l (omega arith)

-- octets that are these bits one by one
pub is_unpacked : (n : ℕ) (bits xs : List ℕ) → length xs ≡ n → ((k : ℕ) → k < n → get_or xs k 0 ≡ packed_bit bits k) → octets_of_bits n bits ≡ xs
is_unpacked n bits xs long same =
    let len = length-octets_of_bits n bits in
    ext_get_or 0 (octets_of_bits n bits) xs (len ∙ sym long) (λ i l.
    let inside : i < n = omega arith in
    at-octets_of_bits n bits i inside ∙ sym (same i inside))
