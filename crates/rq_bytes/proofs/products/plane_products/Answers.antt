-- What the check leaves to show of `products::plane_products`.
use Rattle.std.proofs.Common.{◌≡◌, ◌+◌, ◌-◌, ◌/◌, ◌^◌, ap, sym, ◌∙◌, refl, get_or, arith}
use Rattle.std.proofs.lemmas.Simd.{length-zip2, get_or-zip2, get_or-replicate}
use Rattle.std.specs.Int.Bits.{bit_xor}
use Rattle.rq_standard.specs.Octets.{octet_times, octet_mul}
use Rattle.rq_bytes.proofs.ProductSteps.{start, add_bit}
use Rattle.rq_bytes.proofs.BitLanes.{all_planes}
use Rattle.rq_bytes.proofs.products.plane_products.Goals as goal

pub loop-k-init : goal.loop-k-init
loop-k-init c = record {
  octet = c.ranges.scalar.fits;
  long = refl;
  each = λ i lt.
      let x = get_or c.args.lanes i 0 in
      ap (λ z. bit_xor z (octet_times 8 c.args.scalar (x / 1))) (get_or-replicate 32 i 0 0 lt)
      ∙ ap (λ y. bit_xor 0 (octet_times 8 c.args.scalar y)) (let same : x / 1 ≡ x = omega arith in same)
      ∙ start c.args.scalar x;
}

pub loop-k-preserved : goal.loop-k-preserved
loop-k-preserved c =
    let sum = c.loop-k.sum in
    let p = c.plane-sum.result in
    let k = c.loop-k.k in
    record {
      octet = c.double-term.type_inv;
      long = length-zip2 bit_xor sum p (c.loop-k.invariant.long ∙ sym c.plane-sum.ensures.len) ∙ c.loop-k.invariant.long;
      each = λ i lt.
          let x = get_or c.args.lanes i 0 in
          ap (λ y. bit_xor y (octet_times (8 - (k + 1)) c.double-term.result (x / 2 ^ (k + 1))))
          (get_or-zip2 bit_xor sum p i 0 0 0 (omega arith) (omega (arith, c.plane-sum.ensures.len)))
          ∙ add_bit k (get_or sum i 0) (get_or p i 0) c.loop-k.term c.double-term.result x (octet_mul c.args.scalar x) c.loop-k-test.true
          c.loop-k.invariant.octet (c.plane-sum.ensures.each i lt) c.double-term.ensures (c.loop-k.invariant.each i lt);
    }

pub returns : goal.returns
returns c =
    all_planes c.loop-k.k c.loop-k.term c.args.scalar c.loop-k.sum c.args.lanes (omega arith) c.loop-k.invariant.long c.requires c.loop-k.invariant.each
