-- A determined square has a solution, in symbols.
use Rattle.rq_algebra.proofs.SquareSystems.{square_symbols}
use Rattle.rq_algebra.proofs.symbols.square.Goals as goal

pub returns : goal.returns
returns c = square_symbols
