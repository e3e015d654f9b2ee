-- What the check leaves to show of `products::bit_product`.
use Rattle.std.proofs.Common.{◌≡◌, ◌/◌, ◌%◌, ◌^◌, ap, sym, ◌∙◌, arith}
use Rattle.rq_standard.specs.Octets.{octet_mul}
use Rattle.rq_standard.specs.OctetProducts.{mul-one, mul-zero}
use Rattle.rq_bytes.proofs.products.bit_product.Goals as goal

pub returns-then-word-bit-eq1 : goal.returns-then-word-bit-eq1
returns-then-word-bit-eq1 c =
    let s = c.args.scalar in
    sym (ap (octet_mul s) c.if-word-bit-eq1.true ∙ mul-one s c.ranges.scalar.fits)

pub returns-else-word-bit-eq1 : goal.returns-else-word-bit-eq1
returns-else-word-bit-eq1 c =
    let s = c.args.scalar in
    let none : c.args.word / 2 ^ c.args.bit % 2 ≡ 0 = omega arith in
    sym (ap (octet_mul s) none ∙ mul-zero s)
