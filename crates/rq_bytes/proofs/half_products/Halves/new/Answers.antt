-- What the check leaves to show of `half_products::Halves::new`.
use Rattle.rq_bytes.proofs.HalfLookUps.{halves_of, whole_of}
use Rattle.rq_bytes.proofs.half_products.Halves.new.Goals as goal

pub invariant_of-result : goal.invariant_of-result
invariant_of-result c = halves_of c.args.lanes c.requires c.fits-lanes.1

pub returns : goal.returns
returns c = whole_of c.args.lanes c.requires c.fits-lanes.1
