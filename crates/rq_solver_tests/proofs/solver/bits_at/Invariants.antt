-- What the loop keeps in `solver::bits_at`.
use Rattle.std.proofs.Common.{◌≡◌, ◌<◌, ◌+◌, ℕ}
use Rattle.rq_standard.specs.TableRows.{intermediate_symbols}
use Rattle.rq_solver_tests.specs.Squares.{IsSquareOf}
use Rattle.rq_solver_tests.proofs.solver.bits_at.Given as goal

abbrev pub invariant-loop-i : goal.invariant-loop-i
invariant-loop-i g l =
    let content = g.T.BinaryMatrix.content l.bits in
    record {
      square : IsSquareOf l.row.numbers content;
      zeros : (i k : ℕ) → i < l.row.numbers.hdpc_symbols → k < intermediate_symbols l.row.numbers → content.bit (l.row.numbers.ldpc_symbols + i) k ≡ 0;
    }
