-- What the loops keep in `solver::octets_at`.
use Rattle.std.proofs.Common.{◌≡◌, length}
use Rattle.rq_standard.specs.TableRows.{intermediate_symbols}
use Rattle.rq_solver_tests.proofs.solver.octets_at.Given as goal

abbrev pub invariant-loop-i : goal.invariant-loop-i
invariant-loop-i l = (length l.octets.rows ≡ l.row.numbers.hdpc_symbols) × (l.octets.width ≡ intermediate_symbols l.row.numbers)
