-- What the loop keeps in `pi_solver::first_phase::left_rows::left_rows`.
use Rattle.rq_solver.specs.LeftRows.{row_in_turn}
use Rattle.rq_solver.proofs.LeftRows.{ListsTurns}
use Rattle.rq_solver.proofs.pi_solver.first_phase.left_rows.left_rows.Given as goal

abbrev pub invariant-loop-turn : goal.invariant-loop-turn
invariant-loop-turn l = ListsTurns l.height (row_in_turn l.height l.first_hdpc l.hdpc_count) l.has_pivot l.turn l.left.items
