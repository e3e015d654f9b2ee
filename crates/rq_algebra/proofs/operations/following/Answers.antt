-- What an operation that is added does to the rows and the values.
use Rattle.rq_algebra.proofs.OperationRuns.{follows_none, follows_add, follows_fma, follows_scale}
use Rattle.rq_algebra.proofs.Pivots.{homogeneous_back}
use Rattle.rq_algebra.proofs.operations.following.Goals as goal

pub returns : goal.returns
returns c = record {
  nothing = follows_none;
  add_assign = follows_add;
  fma = follows_fma;
  mul_assign = follows_scale;
  back = homogeneous_back;
}
