-- What the loop keeps in `pi_solver::homogeneous_column::free_column`.
use Rattle.std.proofs.Common.{◌≢◌, ℕ, ◌<◌}
use Rattle.rq_algebra.specs.Systems.{at}
use Rattle.rq_parts.specs.DenseOctetMatrix.{entry_of}
use Rattle.rq_solver.proofs.pi_solver.homogeneous_column.free_column.Given as goal

abbrev pub invariant-loop-column : goal.invariant-loop-column
invariant-loop-column l = (f : ℕ) → f < l.column → entry_of l.table (at l.rows f) f ≢ 0
