-- Rows and places, computed.
use Rattle.std.proofs.Common.{refl}
use Rattle.rq_algebra.specs.Arrangements.{exchange}
use Rattle.rq_algebra.proofs.examples.places.Goals as goal

pub returns : goal.returns
unfolding exchange
returns c = record { stacked = (refl, refl); exchanged = refl }
