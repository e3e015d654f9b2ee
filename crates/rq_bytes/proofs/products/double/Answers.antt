-- What the check leaves to show of `products::double`.
use Rattle.std.proofs.Common.{◌≡◌, ℕ, ◌*◌, ◌%◌, ◌<◌, cond, ltb, refl, sym, ◌∙◌}
use Rattle.std.proofs.lemmas.Bool.{cond-true, cond-false, lt-ltb, le-ltb}
use Rattle.std.specs.Int.Bits.{bit_xor}
use Rattle.rq_standard.specs.Octets.{octet_double}
use Rattle.rq_bytes.proofs.SameBelow.{same_below}
use Rattle.rq_bytes.proofs.products.double.Goals as goal

double_is : (a : ℕ) → a < 256 → cond (ltb a 128) (a * 2 % 256) (bit_xor (a * 2 % 256) 29) ≡ octet_double a
unfolding octet_double
double_is = same_below (λ a. cond (ltb a 128) (a * 2 % 256) (bit_xor (a * 2 % 256) 29)) octet_double 256 refl

pub returns-then-a-lt128 : goal.returns-then-a-lt128
returns-then-a-lt128 c =
    let a = c.args.a in
    sym (cond-true (ltb a 128) (a * 2 % 256) (bit_xor (a * 2 % 256) 29) (lt-ltb a 128 c.if-a-lt128.true)) ∙ double_is a c.ranges.a.fits

pub returns-else-a-lt128 : goal.returns-else-a-lt128
returns-else-a-lt128 c =
    let a = c.args.a in
    sym (cond-false (ltb a 128) (a * 2 % 256) (bit_xor (a * 2 % 256) 29) (le-ltb a 128 c.if-a-lt128.false)) ∙ double_is a c.ranges.a.fits
