-- Packed bits, and the octets that they are.
use Rattle.std.proofs.Common.{◌≡◌, ◌≢◌, ℕ, ◌*◌, ◌<◌, ◌≤◌, List, length, set, replicate, sym, ap, ◌∙◌, arith, inl, inr}
use Rattle.std.specs.Int.Bits.{bit_xor, xor_zero_l}
use Rattle.std.proofs.lemmas.Bool.{cases_eq}
use Rattle.std.proofs.lemmas.List.{get_or-map, get_or-set_same, get_or-set_other, get_or-replicate, length-map, length-replicate, length-set}
use Rattle.std.proofs.lemmas.List.Elements.{All-from_get_or}
use Rattle.std.proofs.lemmas.Simd.{get_or-zip2, length-zip2}
use Rattle.rq_algebra.specs.Systems.{at}
use Rattle.rq_standard.specs.Octets.{octet_mul}
use Rattle.rq_standard.specs.OctetFacts.{one-mul}
use Rattle.rq_standard.specs.Rows.{row_sum, row_multiple}
use Rattle.rq_bytes.specs.BinaryOctetVec.{packed_bit, octets_of_bits}
use Rattle.rq_bytes.proofs.PackedRows.{length-octets_of_bits, at-octets_of_bits, is_unpacked}
use Rattle.rq_parts.specs.DenseOctetMatrix.{IsOctetRow}
use Rattle.rq_parts.proofs.PackedBits.{packed_bit-lt, packed_bit-sum, packed_bit-zeros}

pub unpacked_row : (n : ℕ) (bits : List ℕ) → IsOctetRow n (octets_of_bits n bits)
unpacked_row n bits = (
  length-octets_of_bits n bits,
  All-from_get_or (λ octet. octet < 256) (octets_of_bits n bits) 0 (λ i l.
      let inside : i < n = omega (arith, length-octets_of_bits n bits) in
      let e = at-octets_of_bits n bits i inside in
      let small = packed_bit-lt bits i in
      omega arith),
)

pub octets_of_bits-sum : (n : ℕ) (a b : List ℕ) → length a ≡ length b → n ≤ 64 * length a → octets_of_bits n (row_sum a b) ≡ row_sum (octets_of_bits n a) (octets_of_bits n b)
octets_of_bits-sum n a b long fits =
    let len_a = length-octets_of_bits n a in
    let len_b = length-octets_of_bits n b in
    is_unpacked n (row_sum a b) (row_sum (octets_of_bits n a) (octets_of_bits n b)) (length-zip2 bit_xor (octets_of_bits n a) (octets_of_bits n b) (len_a ∙ sym len_b) ∙ len_a) (λ k l.
    get_or-zip2 bit_xor (octets_of_bits n a) (octets_of_bits n b) k 0 0 0 (omega arith) (omega arith)
    ∙ ap (λ x. bit_xor x (at (octets_of_bits n b) k)) (at-octets_of_bits n a k l)
    ∙ ap (bit_xor (packed_bit a k)) (at-octets_of_bits n b k l)
    ∙ sym (packed_bit-sum a b k (sym long) (omega arith)))

pub octets_of_bits-zeros : (n size : ℕ) → octets_of_bits n (replicate size 0) ≡ replicate n 0
octets_of_bits-zeros n size =
    is_unpacked n (replicate size 0) (replicate n 0) (length-replicate {A = ℕ} n 0) (λ k l. get_or-replicate n k 0 0 l ∙ sym (packed_bit-zeros size k))

-- one bit that is set
pub octets_of_bits-set : (n : ℕ) (old new : List ℕ) (place : ℕ) → place < n → packed_bit new place ≡ 1 → ((k : ℕ) → k ≢ place → packed_bit new k ≡ packed_bit old k)
    → octets_of_bits n new ≡ set (octets_of_bits n old) place 1
octets_of_bits-set n old new place below here elsewhere =
    let len = length-octets_of_bits n old in
    is_unpacked n new (set (octets_of_bits n old) place 1) (length-set (octets_of_bits n old) place 1 ∙ len) (λ k l. elim (cases_eq k place) [
      | inl e ↦ rw e (get_or-set_same (octets_of_bits n old) place 1 0 (omega arith) ∙ sym here)
      | inr d ↦ get_or-set_other (octets_of_bits n old) place k 1 0 d ∙ at-octets_of_bits n old k l ∙ sym (elsewhere k d)
    ])

-- the bits, added to zeros
pub bits_among_zeros : (n : ℕ) (bits sum : List ℕ) → sum ≡ replicate n 0 → row_sum sum (row_multiple 1 (octets_of_bits (length sum) bits)) ≡ octets_of_bits n bits
bits_among_zeros n bits sum is =
    let long : length sum ≡ n = ap length is ∙ length-replicate {A = ℕ} n 0 in
    let row = octets_of_bits (length sum) bits in
    let len = length-octets_of_bits (length sum) bits in
    let multiple : length (row_multiple 1 row) ≡ length sum = length-map row (octet_mul 1) ∙ len in
    sym (is_unpacked n bits (row_sum sum (row_multiple 1 row)) (length-zip2 bit_xor sum (row_multiple 1 row) (sym multiple) ∙ long) (λ k l.
    let in_sum : k < length sum = omega arith in
    let in_multiple : k < length (row_multiple 1 row) = omega arith in
    let small = packed_bit-lt bits k in
    get_or-zip2 bit_xor sum (row_multiple 1 row) k 0 0 0 in_sum in_multiple
    ∙ ap (λ (s : List ℕ). bit_xor (at s k) (at (row_multiple 1 row) k)) is
    ∙ ap (λ x. bit_xor x (at (row_multiple 1 row) k)) (get_or-replicate n k 0 0 l)
    ∙ xor_zero_l (at (row_multiple 1 row) k)
    ∙ get_or-map (octet_mul 1) row k 0 0 (omega (arith, len))
    ∙ ap (octet_mul 1) (at-octets_of_bits (length sum) bits k in_sum)
    ∙ one-mul (packed_bit bits k) (omega arith)))
