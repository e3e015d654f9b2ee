-- What the check leaves to show of `products::doubled_lanes`.
use Rattle.std.proofs.Common.{◌≡◌, ℕ, ◌+◌, ◌%◌, ◌/◌, ◌^◌, ◌<◌, w8, cond, eqb, get_or, length, map, refl, sym, ap, ◌∙◌, arith}
use Rattle.std.proofs.lemmas.List.{ext_get_or, get_or-map, length-map}
use Rattle.std.proofs.lemmas.Simd.{length-zip2, get_or-zip2, Each1-get_or, below_from_Fits}
use Rattle.std.specs.Int.Bits.{bit_xor}
use lib.Lanes.{zip2}
use Rattle.rq_standard.specs.Octets.{octet_mul, octet_times, octet_double}
use Rattle.rq_bytes.proofs.SameBelow.{same_below}
use Rattle.rq_bytes.proofs.products.doubled_lanes.Goals as goal

abbrev doubled_as : ℕ → ℕ
doubled_as x = bit_xor ((x + x) % 256) (cond (eqb (x / 2 ^ 7 % 2) 1) 29 0)

doubled_is : (x : ℕ) → x < 256 → doubled_as x ≡ octet_mul 2 x
unfolding octet_mul octet_times octet_double
doubled_is = same_below doubled_as (octet_mul 2) 256 refl

pub returns : goal.returns
returns c =
    let v = c.args.lanes in
    let p = c.plane.result in
    let sum = λ (a b : ℕ). (a + b) % 256 in
    let twice = zip2 sum v v in
    let long : length twice ≡ 32 = length-zip2 sum v v refl ∙ c.requires in
    let whole : length (zip2 bit_xor twice p) ≡ 32 = length-zip2 bit_xor twice p (long ∙ sym c.plane.ensures.len) ∙ long in
    ext_get_or 0 (zip2 bit_xor twice p) (map (λ x. octet_mul 2 x) v) (whole ∙ sym (length-map v (λ x. octet_mul 2 x) ∙ c.requires))
    (λ i under.
    let lt : i < 32 = omega (arith, whole) in
    let x = get_or v i 0 in
    get_or-zip2 bit_xor twice p i 0 0 0 (omega (arith, long)) (omega (arith, c.plane.ensures.len))
    ∙ ap (λ a. bit_xor a (get_or p i 0)) (get_or-zip2 sum v v i 0 0 0 (omega (arith, c.requires)) (omega (arith, c.requires)))
    ∙ ap (λ b. bit_xor ((x + x) % 256) b) (c.plane.ensures.each i lt)
    ∙ doubled_is x (Each1-get_or (λ y. y < 256) v i 0 (omega (arith, c.requires)) (below_from_Fits w8 v c.fits-lanes.1))
    ∙ sym (get_or-map (λ y. octet_mul 2 y) v i 0 0 (omega (arith, c.requires))))
