-- Few equations have a homogeneous column.
use Rattle.rq_algebra.proofs.FewEquations.{few_rows, homogeneous_of_few}
use Rattle.rq_algebra.proofs.systems.few_equations.Goals as goal

pub returns : goal.returns
returns c = record { of_all = few_rows; on_columns = homogeneous_of_few }
