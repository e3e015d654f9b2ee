-- What the loop keeps in `solver::mirrored_bits`.
use Rattle.rq_solver_tests.specs.Squares.{IsSquareOf}
use Rattle.rq_solver_tests.proofs.solver.mirrored_bits.Given as goal

abbrev pub invariant-loop-i : goal.invariant-loop-i
invariant-loop-i g l = IsSquareOf l.row.numbers (g.T.BinaryMatrix.content l.bits)
