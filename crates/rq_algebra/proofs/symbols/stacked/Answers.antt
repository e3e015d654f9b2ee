-- Stacked systems are solved together, in symbols.
use Rattle.rq_algebra.proofs.Stacks.{symbols_stacked}
use Rattle.rq_algebra.proofs.symbols.stacked.Goals as goal

pub returns : goal.returns
returns c = symbols_stacked
