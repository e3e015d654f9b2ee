-- What the loop keeps in `pi_solver::homogeneous_column::sum_at`.
use Rattle.std.proofs.Common.{◌≡◌, take}
use Rattle.rq_algebra.specs.Operations.{plain}
use Rattle.rq_algebra.specs.Parities.{sum_listed}
use Rattle.rq_algebra.specs.Systems.{at}
use Rattle.rq_standard.specs.OctetField.{octets}
use Rattle.rq_solver.proofs.pi_solver.homogeneous_column.sum_at.Given as goal

abbrev pub invariant-loop-index : goal.invariant-loop-index
invariant-loop-index l = l.sum ≡ sum_listed (plain octets) (take l.index-index l.indices) (at l.column)
