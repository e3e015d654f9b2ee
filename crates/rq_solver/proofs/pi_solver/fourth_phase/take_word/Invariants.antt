-- What the loop keeps in `pi_solver::fourth_phase::take_word`.
use Rattle.std.proofs.Common.{◌-◌, ◌*◌}
use Rattle.rq_parts.specs.DenseOctetMatrix.{entry_of}
use Rattle.rq_solver.proofs.ReducedWords.{TakesOnes}
use Rattle.rq_solver.proofs.pi_solver.fourth_phase.take_word.Given as goal

abbrev pub invariant-loop-rest : goal.invariant-loop-rest
invariant-loop-rest l = TakesOnes l.inactive_rows l.row (64 * l.word) (l.end - 64 * l.word) l.bits l.rest (entry_of l.fn.recorded.table l.row) l.fn.recorded l.recorded

abbrev pub decreases-loop-rest : goal.decreases-loop-rest
decreases-loop-rest l = l.rest
