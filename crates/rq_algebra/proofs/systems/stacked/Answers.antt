-- Stacked systems are solved together.
use Rattle.rq_algebra.proofs.Stacks.{solves_stacked}
use Rattle.rq_algebra.proofs.systems.stacked.Goals as goal

pub returns : goal.returns
returns c = solves_stacked
