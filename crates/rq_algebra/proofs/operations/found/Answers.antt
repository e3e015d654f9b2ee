-- What is found is determined.
use Rattle.rq_algebra.proofs.Found.{finds_determined}
use Rattle.rq_algebra.proofs.operations.found.Goals as goal

pub returns : goal.returns
returns c = finds_determined
