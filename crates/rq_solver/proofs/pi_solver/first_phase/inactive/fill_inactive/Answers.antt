-- What the check leaves to show of `pi_solver::first_phase::inactive::fill_inactive`.
use Rattle.std.proofs.Common.{length}
use Rattle.rq_solver.proofs.InactiveFilling.{leading_next}
use Rattle.rq_solver.proofs.pi_solver.first_phase.inactive.fill_inactive.Goals as goal

pub loop-from-preserved : goal.loop-from-preserved
loop-from-preserved c =
    let system = c.args.system.now in
    let p = c.args.peeling.now in
    leading_next system.ones system.first_hdpc system.hdpc p.order (length p.rows) _ c.loop-from.from c.loop-from.entries c.fill_octets.new.entries c.loop-from.invariant c.in_ok-fill_octets.ensures
