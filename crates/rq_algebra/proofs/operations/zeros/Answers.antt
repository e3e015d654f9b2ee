-- Zeros stay.
use Rattle.rq_algebra.proofs.Placewise.{zeros_stay}
use Rattle.rq_algebra.proofs.operations.zeros.Goals as goal

pub returns : goal.returns
returns c = zeros_stay
