-- What the check leaves to show of `pi_solver::fused_inverse_mul_symbols`.
use Rattle.std.proofs.Common.{refl}
use Rattle.rq_solver.specs.SolverState.{solver_state}
use Rattle.rq_solver.proofs.SolutionLaws.{outcome_same}
use Rattle.rq_solver.proofs.pi_solver.fused_inverse_mul_symbols.Goals as goal

pub returns-clause-solved : goal.returns-clause-solved
returns-clause-solved g c = outcome_same (solver_state c.new.result) _ c.args.symbols c.execute.result c.new.ensures refl c.execute.ensures.solved
