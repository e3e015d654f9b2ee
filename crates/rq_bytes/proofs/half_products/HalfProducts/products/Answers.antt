-- What the check leaves to show of `half_products::HalfProducts::products`.
use Rattle.std.proofs.Common.{List, ℕ, ap, ◌∙◌, map}
use Rattle.rq_standard.specs.Octets.{octet_mul}
use Rattle.rq_bytes.proofs.HalfLookUps.{lower_ok, upper_ok, looked_up, length-looked_up}
use Rattle.rq_bytes.proofs.half_products.HalfProducts.products.Goals as goal

pub swizzle-low : goal.swizzle-low
swizzle-low c = lower_ok c.halves.inside.lower c.halves.inside.upper c.halves.invariant

pub swizzle-high : goal.swizzle-high
swizzle-high c = upper_ok c.halves.inside.lower c.halves.inside.upper c.halves.invariant

pub returns-clause-products : goal.returns-clause-products
returns-clause-products c =
    let half = c.args.self.now in
    looked_up c.halves.inside.lower c.halves.inside.upper c.halves.invariant half.octet half.low half.high half.products
    ∙ ap (λ (xs : List ℕ). map (λ x. octet_mul half.octet x) xs) c.halves.view_is

pub returns-clause-len : goal.returns-clause-len
returns-clause-len c =
    let half = c.args.self.now in
    length-looked_up c.halves.inside.lower c.halves.inside.upper c.halves.invariant half.octet half.low half.high half.products
