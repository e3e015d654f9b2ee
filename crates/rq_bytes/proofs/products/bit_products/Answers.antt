-- What the check leaves to show of `products::bit_products`.
use Rattle.std.proofs.Common.{[], ◌∷◌, ◌++◌, ◌^◌, ap, ◌∙◌, eqb, replicate, w8}
use Rattle.std.proofs.lemmas.Simd.{tops_compared}
use lib.Bits.{bit_and}
use lib.Lanes.{zip2, digits_l, number_l, sel_l, pick_l}
use Rattle.rq_bytes.specs.declared.products.TheConstants.{MASKS, PLACES}
use Rattle.rq_bytes.proofs.BitLanes.{masked_bits}
use Rattle.rq_bytes.proofs.products.bit_products.Goals as goal

pub returns : goal.returns
returns c =
    let octets = digits_l 256 8 (number_l (2 ^ 64) (c.args.word ∷ [])) in
    let lanes = pick_l 0 (octets ++ octets) PLACES in
    ap (λ ms. sel_l ms (replicate 32 c.args.scalar) (replicate 32 0)) (tops_compared w8 eqb (zip2 bit_and lanes MASKS) MASKS)
    ∙ masked_bits c.args.scalar c.args.word c.ranges.scalar.fits c.ranges.word.fits
