-- What the check leaves to show of `half_products::HalfProducts::new`.
use Rattle.rq_bytes.proofs.HalfLookUps.{half_products}
use Rattle.rq_bytes.proofs.half_products.HalfProducts.new.Goals as goal

pub invariant_of-result : goal.invariant_of-result
invariant_of-result c = record {
  products = half_products c.args.octet c.ranges.octet.fits c.half_products-products.result c.half_products-products.ensures.long c.half_products-products.ensures.each;
}
