-- Repeated places, computed.
use Rattle.std.proofs.Common.{refl}
use Rattle.rq_algebra.specs.Parities.{sum_listed, parity}
use Rattle.rq_algebra.proofs.examples.repeats.Goals as goal

pub returns : goal.returns
unfolding sum_listed parity
returns c = (refl, refl, refl)
