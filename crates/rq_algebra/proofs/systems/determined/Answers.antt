-- What determined systems keep.
use Rattle.rq_algebra.proofs.Solutions.{determined_stays, solves_standing, determined_unique, homogeneous_not_determined}
use Rattle.rq_algebra.proofs.Stacks.{ids_stand}
use Rattle.rq_algebra.proofs.systems.determined.Goals as goal

pub returns : goal.returns
returns c = record {
  stays = determined_stays;
  by_ids = λ F width height above row old new ids. determined_stays F width _ _ _ _ (ids_stand width height above row old new ids);
  solves_old = solves_standing;
  one_solution = determined_unique;
  refuted = homogeneous_not_determined;
}
