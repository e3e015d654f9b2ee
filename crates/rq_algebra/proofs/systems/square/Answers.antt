-- A determined square has a solution.
use Rattle.rq_algebra.proofs.SquareSystems.{square_solution}
use Rattle.rq_algebra.proofs.systems.square.Goals as goal

pub returns : goal.returns
returns c = square_solution
