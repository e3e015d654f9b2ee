-- What is found in symbols.
use Rattle.rq_algebra.proofs.Found.{finds_symbols}
use Rattle.rq_algebra.proofs.symbols.found.Goals as goal

pub returns : goal.returns
returns c = finds_symbols
