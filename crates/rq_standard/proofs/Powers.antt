-- The powers of alpha, and quotients.
use Rattle.std.proofs.Common.{◌≡◌, ℕ, zero, suc, ◌+◌, ◌-◌, ◌<◌, ◌≤◌, refl, sym, ap, ◌∙◌, arith}
use Rattle.rq_standard.specs.Octets.{octet_double, octet_mul, octet_power, octet_inverse, octet_div}
use Rattle.rq_standard.specs.OctetFacts.{double-lt, one-mul, mul-inverse}
use Rattle.rq_standard.specs.OctetProducts.{mul-double_left, mul-one, mul-assoc, zero-mul}

pub power-lt : (n : ℕ) → octet_power n < 256
unfolding octet_power
power-lt zero = omega arith
power-lt (suc n) = double-lt (octet_power n) (power-lt n)

pub mul-power : (m n : ℕ) → octet_mul (octet_power m) (octet_power n) ≡ octet_power (m + n)
unfolding octet_power
mul-power zero n = one-mul (octet_power n) (power-lt n) ∙ ap octet_power (let e : n ≡ 0 + n = omega arith in e)
mul-power (suc m) n =
    mul-double_left (octet_power m) (octet_power n) (power-lt m)
    ∙ ap octet_double (mul-power m n)
    ∙ ap octet_power (let e : suc (m + n) ≡ suc m + n = omega arith in e)

pub power_of_order : octet_power 255 ≡ 1
unfolding octet_power octet_double
power_of_order = refl

-- the product by logarithms
pub mul_by_powers : (a b m n : ℕ) → octet_power m ≡ a → octet_power n ≡ b → octet_power (m + n) ≡ octet_mul a b
mul_by_powers a b m n p q = sym (mul-power m n) ∙ ap (λ x. octet_mul x (octet_power n)) p ∙ ap (octet_mul a) q

pub zero-div : (b : ℕ) → octet_div 0 b ≡ 0
unfolding octet_div
zero-div b = zero-mul (octet_inverse b)

-- a quotient is known by its product
pub div_from_mul : (a b q : ℕ) → b < 256 → q < 256 → (b ≡ 0 → ⊥) → octet_mul q b ≡ a → q ≡ octet_div a b
unfolding octet_div
div_from_mul a b q hb hq ne e =
    sym (mul-one q hq) ∙ ap (octet_mul q) (sym (mul-inverse b hb ne)) ∙ sym (mul-assoc q b (octet_inverse b) hq hb)
    ∙ ap (λ x. octet_mul x (octet_inverse b)) e

-- the quotient by logarithms
pub div_by_powers : (a b m n : ℕ) → a < 256 → b < 256 → (b ≡ 0 → ⊥) → octet_power m ≡ a → octet_power n ≡ b → n ≤ 255 → octet_power (m + 255 - n) ≡ octet_div a b
div_by_powers a b m n ha hb ne p q le =
    div_from_mul a b (octet_power (m + 255 - n)) hb (power-lt (m + 255 - n)) ne (
    ap (octet_mul (octet_power (m + 255 - n))) (sym q)
    ∙ mul-power (m + 255 - n) n
    ∙ ap octet_power (let e : (m + 255 - n) + n ≡ m + 255 = omega arith in e)
    ∙ sym (mul-power m 255)
    ∙ ap (octet_mul (octet_power m)) power_of_order
    ∙ mul-one (octet_power m) (power-lt m)
    ∙ p)
