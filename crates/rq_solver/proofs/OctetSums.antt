-- Sums of octets, and products that bring one to 0 or 1.
use Rattle.std.proofs.Common.{◌≡◌, ◌≢◌, ℕ, suc, ◌+◌, ◌<◌, sym, ap, ◌∙◌, arith}
use Rattle.rq_algebra.specs.Systems.{sum_below}
use Rattle.rq_algebra.proofs.Sums.{add_zero, mul_one, mul_zero}
use Rattle.rq_standard.specs.Octets.{octet_div}
use Rattle.rq_standard.specs.OctetField.{octets}
use Rattle.rq_elimination.proofs.ChangedEntries.{mul_is}

pub sum_of_one : (f : ℕ → ℕ) → sum_below octets 1 f ≡ f 0
unfolding sum_below
sum_of_one f = octets.zero_add (f 0)

pub sum_of_more : (f : ℕ → ℕ) (n : ℕ) → sum_below octets (n + 1) f ≡ octets.add (sum_below octets n f) (f n)
unfolding sum_below
sum_of_more f n = let next : n + 1 ≡ suc n = omega arith in rw next

-- a quotient takes the divisor back to what was divided
pub quotient_times : (x y : ℕ) → x < 256 → y < 256 → y ≢ 0 → octets.mul (octet_div x y) y ≡ x
unfolding octet_div
quotient_times x y small below nonzero =
    ap (λ (q : ℕ). octets.mul q y) (sym (mul_is x (octets.inverse y) small (octets.inverse_below y below nonzero)))
    ∙ octets.mul_assoc x (octets.inverse y) y
    ∙ ap (octets.mul x) (octets.inverse_mul y below nonzero)
    ∙ mul_one octets x small

pub plus_quotient_times : (x y : ℕ) → x < 256 → y < 256 → y ≢ 0 → octets.add x (octets.mul (octet_div x y) y) ≡ 0
plus_quotient_times x y small below nonzero = ap (octets.add x) (quotient_times x y small below nonzero) ∙ octets.add_self x

-- a multiple of zero adds nothing, and a multiple of 1 takes away what it is
pub plus_zero_times : (x c y : ℕ) → y ≡ 0 → octets.add x (octets.mul c y) ≡ x
plus_zero_times x c y e = ap (λ (z : ℕ). octets.add x (octets.mul c z)) e ∙ ap (octets.add x) (mul_zero octets c) ∙ add_zero octets x

pub plus_own : (x c y : ℕ) → c < 256 → x ≡ c → y ≡ 1 → octets.add x (octets.mul c y) ≡ 0
plus_own x c y small e f = ap (λ (z : ℕ). octets.add x (octets.mul c z)) f ∙ ap (octets.add x) (mul_one octets c small) ∙ ap (λ (z : ℕ). octets.add z c) e ∙ octets.add_self c
