-- What the check leaves to show of `pi_solver::first_phase::first_phase`.
use Rattle.rq_solver.proofs.pi_solver.first_phase.first_phase.Goals as goal

pub returns-clause-cleared : goal.returns-clause-cleared
returns-clause-cleared c = rw c.as_slice.ensures.value at c.in_ok-ones.ensures.cleared
