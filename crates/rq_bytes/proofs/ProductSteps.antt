-- The product of two octets, bit by bit from the lowest.
use Rattle.std.proofs.Common.{◌≡◌, ℕ, suc, ◌+◌, ◌-◌, ◌/◌, ◌%◌, ◌^◌, ◌<◌, ◌≤◌, eqb, refl, sym, ap, ◌∙◌, arith}
use Rattle.std.proofs.lemmas.Nat.{shr-shr}
use Rattle.std.proofs.lemmas.Bool.{cond-true, cond-false, eq-eqb, ne_eqb}
use Rattle.std.specs.Int.Bits.{bit_xor, xor_assoc, xor_zero_r}
use Rattle.rq_standard.specs.Octets.{octet_double, octet_times, octet_mul}
use Rattle.rq_standard.specs.OctetProducts.{if_set, times-double_left}

one_bit : (n term rest : ℕ) → term < 256 → octet_times (suc n) term rest ≡ bit_xor (if_set rest term) (octet_times n (octet_double term) (rest / 2))
unfolding octet_times
one_bit n term rest h = ap (bit_xor (if_set rest term)) (sym (times-double_left n term (rest / 2) h))

step : (k m sum term rest p : ℕ) → k < 8 → m ≡ k + 1 → term < 256 → bit_xor sum (octet_times (8 - k) term rest) ≡ p
    → bit_xor (bit_xor sum (if_set rest term)) (octet_times (8 - m) (octet_double term) (rest / 2)) ≡ p
step k m sum term rest p lt e h is =
    xor_assoc sum (if_set rest term) (octet_times (8 - m) (octet_double term) (rest / 2))
    ∙ ap (bit_xor sum) (sym (one_bit (8 - m) term rest h))
    ∙ ap (λ n. bit_xor sum (octet_times n term rest)) (let same : suc (8 - m) ≡ 8 - k = omega arith in same)
    ∙ is

pub start : (a b : ℕ) → bit_xor 0 (octet_times 8 a b) ≡ octet_mul a b
unfolding octet_mul
start a b = refl

pub end : (k sum term rest p : ℕ) → 8 ≤ k → bit_xor sum (octet_times (8 - k) term rest) ≡ p → sum ≡ p
unfolding octet_times
end k sum term rest p le is =
    sym (xor_zero_r sum) ∙ ap (λ n. bit_xor sum (octet_times n term rest)) (let none : 0 ≡ 8 - k = omega arith in none) ∙ is

-- what the loop adds
pub set_term : (sum term rest : ℕ) → rest % 2 ≡ 1 → bit_xor sum term ≡ bit_xor sum (if_set rest term)
set_term sum term rest is = ap (bit_xor sum) (sym (cond-true (eqb (rest % 2) 1) term 0 (eq-eqb (rest % 2) 1 is)))

pub unset_term : (sum term rest : ℕ) → (rest % 2 ≡ 1 → ⊥) → sum ≡ bit_xor sum (if_set rest term)
unset_term sum term rest ne =
    sym (ap (bit_xor sum) (cond-false (eqb (rest % 2) 1) term 0 (ne_eqb (rest % 2) 1 ne)) ∙ xor_zero_r sum)

-- one more bit, of what it adds and the next term
pub add_bit : (k sum part term next x p : ℕ) → k < 8 → term < 256 → part ≡ if_set (x / 2 ^ k) term → next ≡ octet_double term
    → bit_xor sum (octet_times (8 - k) term (x / 2 ^ k)) ≡ p → bit_xor (bit_xor sum part) (octet_times (8 - (k + 1)) next (x / 2 ^ (k + 1))) ≡ p
add_bit k sum part term next x p lt h is doubled so =
    ap (λ y. bit_xor (bit_xor sum y) (octet_times (8 - (k + 1)) next (x / 2 ^ (k + 1)))) is
    ∙ ap (λ y. bit_xor (bit_xor sum (if_set (x / 2 ^ k) term)) (octet_times (8 - (k + 1)) y (x / 2 ^ (k + 1)))) doubled
    ∙ ap (λ y. bit_xor (bit_xor sum (if_set (x / 2 ^ k) term)) (octet_times (8 - (k + 1)) (octet_double term) y)) (sym (shr-shr x k 1))
    ∙ step k (k + 1) sum term (x / 2 ^ k) p lt refl h so
