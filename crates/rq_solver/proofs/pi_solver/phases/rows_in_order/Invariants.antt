-- What the loops keep in `pi_solver::phases::rows_in_order`.
use Rattle.std.proofs.Common.{◌≡◌, ◌++◌, map, take}
use Rattle.rq_algebra.specs.Systems.{at}
use Rattle.rq_solver.proofs.pi_solver.phases.rows_in_order.Given as goal

abbrev pub invariant-loop-place : goal.invariant-loop-place
invariant-loop-place l = l.rows.items ≡ map (at (l.peeling.rows ++ l.left)) (take l.place-index l.places)
