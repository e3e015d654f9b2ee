-- Operations, computed.
use Rattle.std.proofs.Common.{refl, arith}
use Rattle.rq_algebra.specs.Operations.{step, run}
use Rattle.rq_algebra.specs.Symbols.{add_symbols}
use Rattle.rq_algebra.proofs.examples.runs.Goals as goal

pub returns : goal.returns
unfolding run step add_symbols
returns c = record { run = refl; through = refl; replaced = refl; symbols = refl; allowed = ((omega arith, omega arith, omega arith), λ all. all.2 refl) }
