-- Bits of packed words, one after another.
use Rattle.std.proofs.Common.{◌≡◌, ℕ, zero, suc, ◌+◌, ◌-◌, ◌*◌, ◌/◌, ◌%◌, ◌^◌, ◌<◌, List, [], ◌∷◌, get_or, refl, ap, ◌∙◌, sym, arith, cond, eq-eqb}
use Rattle.std.proofs.Math.Nat.{div-div-eq-div-mul}
use Rattle.std.proofs.Math.Pow.{pow-add}
use Rattle.std.specs.Prelude.{◌==◌}
use Rattle.std.specs.Int.{bit_at}
use Rattle.std.specs.Int.Bits.{bit_xor}
use Rattle.rq_bytes.specs.BinaryOctetVec.{packed_bit}
use Rattle.rq_parts.specs.BitPairs.{bit_pairs, ones_among}

-- the bit at a place of a word
pub packed_bit-at : (words : List ℕ) (word bit : ℕ) → bit < 64 → packed_bit words (64 * word + bit) ≡ bit_at (get_or words word 0) bit
packed_bit-at words word bit below =
    let quotient : (64 * word + bit) / 64 ≡ word = omega arith in
    let remainder : (64 * word + bit) % 64 ≡ bit = omega arith in
    ap (λ k. bit_at (get_or words k 0) ((64 * word + bit) % 64)) quotient ∙ ap (bit_at (get_or words word 0)) remainder

pub bit_pairs-none : (words : List ℕ) (bit column count : ℕ) → count ≡ 0 → bit_pairs words bit column count ≡ []
unfolding bit_pairs
bit_pairs-none words bit column count e = ap (bit_pairs words bit column) e

pub bit_pairs-next : (words : List ℕ) (bit column count : ℕ) → 0 < count → bit_pairs words bit column count ≡ (column, packed_bit words bit) ∷ bit_pairs words (bit + 1) (column + 1) (count - 1)
unfolding bit_pairs
bit_pairs-next words bit column zero some = absurd (omega arith)
bit_pairs-next words bit column (suc count) some =
    let b : suc bit ≡ bit + 1 = omega arith in
    let k : suc column ≡ column + 1 = omega arith in
    let n : count ≡ suc count - 1 = omega arith in
    ap (λ x. (column, packed_bit words bit) ∷ bit_pairs words x (suc column) count) b
    ∙ ap (λ x. (column, packed_bit words bit) ∷ bit_pairs words (bit + 1) x count) k
    ∙ ap (λ x. (column, packed_bit words bit) ∷ bit_pairs words (bit + 1) (column + 1) x) n

-- the first of the columns before `end`, with the bit at a place of a word
pub bit_pairs-step : (words : List ℕ) (word bit column end : ℕ) → bit < 64 → column < end
    → bit_pairs words (64 * word + bit) column (end - column) ≡ (column, bit_at (get_or words word 0) bit) ∷ bit_pairs words (64 * word + bit + 1) (column + 1) (end - (column + 1))
bit_pairs-step words word bit column end below before =
    let count : end - column - 1 ≡ end - (column + 1) = omega arith in
    bit_pairs-next words (64 * word + bit) column (end - column) (omega arith)
    ∙ ap (λ x. (column, x) ∷ bit_pairs words (64 * word + bit + 1) (column + 1) (end - column - 1)) (packed_bit-at words word bit below)
    ∙ ap (λ n. (column, bit_at (get_or words word 0) bit) ∷ bit_pairs words (64 * word + bit + 1) (column + 1) n) count

-- the bits of a word after a shift
pub bit_at-shifted : (n a k : ℕ) → bit_at (n / 2 ^ a) k ≡ bit_at n (a + k)
bit_at-shifted n a k = ap (λ q. q % 2) (div-div-eq-div-mul n (2 ^ a) (2 ^ k)) ∙ ap (λ d. n / d % 2) (sym (pow-add 2 a k))

-- the sum of two bits
pub sum_of_bits : (x y : ℕ) → x < 2 → y < 2 → (x + y) % 2 ≡ bit_xor x y
sum_of_bits zero zero lt lt' = refl
sum_of_bits zero (suc zero) lt lt' = refl
sum_of_bits (suc zero) zero lt lt' = refl
sum_of_bits (suc zero) (suc zero) lt lt' = refl
sum_of_bits (suc (suc x)) y lt lt' = absurd (omega arith)
sum_of_bits x (suc (suc y)) lt lt' = absurd (omega arith)

-- bits that are the same make the same pairs
pub bit_pairs-same : (words others : List ℕ) (place other column count : ℕ) → ((k : ℕ) → k < count → packed_bit words (place + k) ≡ packed_bit others (other + k))
    → bit_pairs words place column count ≡ bit_pairs others other column count
unfolding bit_pairs
bit_pairs-same words others place other column zero same = refl
bit_pairs-same words others place other column (suc count) same =
    let here = λ (list : List ℕ) (n : ℕ). ap (packed_bit list) (let e : n + 0 ≡ n = omega arith in e) in
    let next = λ (list : List ℕ) (n k : ℕ). ap (packed_bit list) (let e : n + suc k ≡ suc n + k = omega arith in e) in
    let first : packed_bit words place ≡ packed_bit others other = sym (here words place) ∙ same 0 (omega arith) ∙ here others other in
    ap (λ x. (column, x) ∷ bit_pairs words (suc place) (suc column) count) first
    ∙ ap (λ l. (column, packed_bit others other) ∷ l)
    (bit_pairs-same words others (suc place) (suc other) (suc column) count (λ k l. sym (next words place k) ∙ same (suc k) (omega arith) ∙ next others other k))

-- as many zeros as pass make no ones
pub ones_among-skip : (words : List ℕ) (n m place column : ℕ) → ((k : ℕ) → k < n → packed_bit words (place + k) ≡ 0)
    → ones_among (bit_pairs words place column (n + m)) ≡ ones_among (bit_pairs words (place + n) (column + n) m)
unfolding bit_pairs
ones_among-skip words zero m place column zeros =
    let a : 0 + m ≡ m = omega arith in
    let b : place ≡ place + 0 = omega arith in
    let d : column ≡ column + 0 = omega arith in
    ap (λ n. ones_among (bit_pairs words place column n)) a ∙ ap (λ n. ones_among (bit_pairs words n column m)) b ∙ ap (λ n. ones_among (bit_pairs words (place + 0) n m)) d
ones_among-skip words (suc n) m place column zeros =
    let a : suc n + m ≡ suc (n + m) = omega arith in
    let b : suc place + n ≡ place + suc n = omega arith in
    let d : suc column + n ≡ column + suc n = omega arith in
    let here : packed_bit words place ≡ 0 = ap (packed_bit words) (let e : place ≡ place + 0 = omega arith in e) ∙ zeros 0 (omega arith) in
    let rest = λ (k : ℕ) (lt : k < n). ap (packed_bit words) (let e : suc place + k ≡ place + suc k = omega arith in e) ∙ zeros (suc k) (omega arith) in
    ap (λ n. ones_among (bit_pairs words place column n)) a
    ∙ ap (λ x. cond (x == 1) ((column, x) ∷ ones_among (bit_pairs words (suc place) (suc column) (n + m))) (ones_among (bit_pairs words (suc place) (suc column) (n + m)))) here
    ∙ ones_among-skip words n m (suc place) (suc column) rest
    ∙ ap (λ x. ones_among (bit_pairs words x (suc column + n) m)) b
    ∙ ap (λ x. ones_among (bit_pairs words (place + suc n) x m)) d

-- the first of some pairs is the first of their ones, if it is one
pub ones_among-first : (pair : ℕ × ℕ) (pairs : List (ℕ × ℕ)) → pair.1 ≡ 1 → ones_among (pair ∷ pairs) ≡ pair ∷ ones_among pairs
ones_among-first pair pairs one = ap (λ b. cond b (pair ∷ ones_among pairs) (ones_among pairs)) (eq-eqb pair.1 1 one)
