-- What the check leaves to show of `products::product`.
use Rattle.std.proofs.Common.{◌≡◌, ◌+◌, ◌-◌, ◌/◌, ◌^◌, ap, ◌∙◌, refl, arith}
use Rattle.std.specs.Int.Bits.{bit_xor}
use Rattle.rq_standard.specs.Octets.{octet_mul, octet_times}
use Rattle.rq_standard.specs.OctetProducts.{if_set}
use Rattle.rq_bytes.proofs.ProductSteps.{add_bit, start, end, set_term, unset_term}
use Rattle.rq_bytes.proofs.products.product.Goals as goal
use Rattle.rq_bytes.proofs.products.product.Goals.{then-b-k-eq1, else-b-k-eq1}

pub loop-k-init : goal.loop-k-init
loop-k-init c = record {
  octet = c.ranges.a.fits;
  same = ap (octet_times 8 c.args.a) (let whole : c.args.b / 1 ≡ c.args.b = omega arith in whole) ∙ start c.args.a c.args.b;
}

pub loop-k-preserved : goal.loop-k-preserved
loop-k-preserved c =
    let k = c.loop-k.k in
    let sum = c.loop-k.sum in
    let term = c.loop-k.term in
    let b = c.args.b in
    let rest = b / 2 ^ k in
    let next = c.double-term.result in
    let added : c.if-b-k-eq1.sum ≡ bit_xor sum (if_set rest term) =
    elim c.if-b-k-eq1.branch [
      | then-b-k-eq1 w ↦ w.sum-is ∙ set_term sum term rest w.if-b-k-eq1.true
      | else-b-k-eq1 w ↦ w.sum-is ∙ unset_term sum term rest w.if-b-k-eq1.false
    ]
    in
    record {
      octet = c.double-term.type_inv;
      same =
          ap (λ s. bit_xor s (octet_times (8 - (k + 1)) next (b / 2 ^ (k + 1)))) added
          ∙ add_bit k sum (if_set rest term) term next b (octet_mul c.args.a b) c.loop-k-test.true c.loop-k.invariant.octet refl
          c.double-term.ensures c.loop-k.invariant.same;
    }

pub returns : goal.returns
returns c =
    end c.loop-k.k c.loop-k.sum c.loop-k.term (c.args.b / 2 ^ c.loop-k.k) (octet_mul c.args.a c.args.b) (omega arith) c.loop-k.invariant.same
