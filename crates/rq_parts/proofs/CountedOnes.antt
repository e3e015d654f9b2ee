-- How many of some places have a one.
use Rattle.std.proofs.Common.{◌≡◌, ℕ, zero, suc, ◌+◌, ◌-◌, ◌/◌, ◌%◌, ◌^◌, ◌<◌, ◌≤◌, refl, sym, ap, ◌∙◌, arith, add-zero, add_assoc, add_comm}
use Rattle.std.specs.Prelude.{count_ones, bit_and}
use Rattle.std.specs.Int.{bit_at}
use Rattle.std.proofs.Math.Pow.{pow_pos}
use Rattle.std.proofs.lemmas.Nat.{and_mask, mod-pow-add}
use Rattle.std.proofs.lemmas.Nat.Bits.{bit_at-lt, ones_shr}
use Rattle.std.proofs.Math.Nat.{mod-lt}
use lib.Count.{ones_cat, ones-ones}
use Rattle.rq_standard.specs.BitTableSteps.{ones_below}
use Rattle.rq_parts.proofs.BitPairLaws.{bit_at-shifted}

pub ones_below-same : (f g : ℕ → ℕ) (n : ℕ) → ((k : ℕ) → k < n → f k ≡ g k) → ones_below f n ≡ ones_below g n
ones_below-same f g zero same = refl
ones_below-same f g (suc n) same = ap (λ x. x + f n) (ones_below-same f g n (λ k lt. same k (omega arith))) ∙ ap (λ x. ones_below g n + x) (same n (omega arith))

pub ones_below-add : (f : ℕ → ℕ) (a b : ℕ) → ones_below f (a + b) ≡ ones_below f a + ones_below (λ k. f (a + k)) b
ones_below-add f a zero = ap (ones_below f) (add-zero a) ∙ sym (add-zero (ones_below f a))
ones_below-add f a (suc b) =
    let next : a + suc b ≡ suc (a + b) = omega arith in
    ap (ones_below f) next ∙ ap (λ x. x + f (a + b)) (ones_below-add f a b) ∙ add_assoc (ones_below f a) (ones_below (λ k. f (a + k)) b) (f (a + b))

pub ones_below-le : (f : ℕ → ℕ) (n : ℕ) → ((k : ℕ) → k < n → f k < 2) → ones_below f n ≤ n
ones_below-le f zero small = omega arith
ones_below-le f (suc n) small =
    let rest = ones_below-le f n (λ k lt. small k (omega arith)) in
    let here = small n (omega arith) in
    omega arith

-- a number below two has itself as its count
count_ones-bit : (b : ℕ) → b < 2 → count_ones b ≡ b
count_ones-bit zero lt = ones-ones 0
count_ones-bit (suc zero) lt = ones-ones 1
count_ones-bit (suc (suc b)) lt = absurd (omega arith)

-- the count of the lowest bits of a number
count_ones-mod : (n c : ℕ) → count_ones (n % 2 ^ c) ≡ ones_below (bit_at n) c
count_ones-mod n zero = ap count_ones (let e : n % 1 ≡ 0 = omega arith in e) ∙ ones-ones 0
count_ones-mod n (suc c) =
    let next : suc c ≡ 1 + c = omega arith in
    ap (λ x. count_ones (n % 2 ^ x)) next
    ∙ ap count_ones (mod-pow-add n 1 c)
    ∙ ones_cat c (bit_at n c) (n % 2 ^ c) (mod-lt n (pow_pos c))
    ∙ ap (λ x. x + count_ones (n % 2 ^ c)) (count_ones-bit (bit_at n c) (bit_at-lt n c))
    ∙ ap (λ x. bit_at n c + x) (count_ones-mod n c)
    ∙ add_comm (bit_at n c) (ones_below (bit_at n) c)

-- the ones among `count` bits of a word, from `bit` on
pub count_ones-part : (word bit count rest : ℕ) → count + rest ≡ 64 → count_ones (bit_and (word / 2 ^ bit) ((2 ^ 64 - 1) / 2 ^ rest)) ≡ ones_below (λ k. bit_at word (bit + k)) count
count_ones-part word bit count rest e =
    let mask : (2 ^ 64 - 1) / 2 ^ rest ≡ 2 ^ count - 1 = let left : 64 - rest ≡ count = omega arith in ones_shr 64 rest (omega arith) ∙ ap (λ x. 2 ^ x - 1) left in
    ap (λ m. count_ones (bit_and (word / 2 ^ bit) m)) mask
    ∙ ap count_ones (and_mask (word / 2 ^ bit) count)
    ∙ count_ones-mod (word / 2 ^ bit) count
    ∙ ones_below-same (bit_at (word / 2 ^ bit)) (λ k. bit_at word (bit + k)) count (λ k _. bit_at-shifted word bit k)
