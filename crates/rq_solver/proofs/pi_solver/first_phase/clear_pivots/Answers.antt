-- What the check leaves to show of `pi_solver::first_phase::clear_pivots`.
use Rattle.std.proofs.Common.{◌+◌, ◌-◌, ◌≡◌, ◌++◌, ℕ, length, ap, ◌∙◌, arith}
use Rattle.rq_parts.specs.DenseOctetMatrix.{OctetTable}
use Rattle.rq_elimination.specs.OperationCounts.{additions}
use Rattle.rq_solver.proofs.PivotsTaken.{peels_rows}
use Rattle.rq_solver.proofs.PivotsCleared.{peeled_pivots, pivot_of_bits, takes_alone}
use Rattle.rq_elimination.proofs.Performing.{logs_performed}
use Rattle.rq_solver.proofs.TakenAgain.{taken_stays}
use Rattle.rq_solver.proofs.pi_solver.first_phase.clear_pivots.Goals as goal

pub clear_rows-requires-clause-peeled : goal.clear_rows-requires-clause-peeled
clear_rows-requires-clause-peeled c = peels_rows c.args.system.width c.args.system.ones c.args.peeling.now c.args.system.bits c.requires.peeled

pub clear_octets-requires-clause-pivots : goal.clear_octets-requires-clause-pivots
clear_octets-requires-clause-pivots c =
    let system = c.args.system in
    let pivots = c.args.peeling.now in
    let peeled = c.requires.peeled in
    let height : length c.clear_rows.new.recorded.table.rows ≡ length system.ones =
    c.in_ok-bounds.ensures.cleared.done.height ∙ ap (λ (t : OctetTable). length t.rows) c.in_ok-recorded.ensures.table ∙ c.in_ok-table.ensures.height_is in
    record {
      columns = rw system.octet_rows.width_is peeled.columns;
      few = rw system.octet_rows.width_is peeled.few;
      pivots = rw height peeled.in_rows;
      apart = λ i p l n. pivot_of_bits system.ones system.first_hdpc system.hdpc system.width system.bits system.octet_rows pivots.rows pivots.order pivots.places peeled p i n l;
    }

pub returns-clause-cleared : goal.returns-clause-cleared
returns-clause-cleared c =
    let system = c.args.system in
    let pivots = c.args.peeling.now in
    let inactive : ℕ = system.width - length pivots.rows in
    let wide : length pivots.rows + inactive ≡ system.width = omega (arith, c.requires.peeled.few) in
    peeled_pivots system.ones system.first_hdpc system.hdpc system.width system.bits system.octet_rows pivots.rows pivots.order pivots.places c.requires.peeled c.args.left.now c.requires.listed
    c.in_ok-recorded.recorded c.clear_rows.new.recorded c.clear_octets.new.recorded c.in_ok-bounds.ensures.cleared c.in_ok-clear_octets.ensures.cleared
    system.octets inactive wide c.in_ok-recorded.ensures.operations (rw c.in_ok-recorded.ensures.table c.in_ok-table.ensures)

pub returns-clause-alone : goal.returns-clause-alone
returns-clause-alone c =
    let pivots = c.args.peeling.now in
    takes_alone c.args.system pivots.rows pivots.order (pivots.rows ++ c.args.left.now) c.in_ok-recorded.recorded c.clear_rows.new.recorded c.clear_octets.new.recorded c.in_ok-bounds.ensures.cleared c.in_ok-clear_octets.ensures.cleared
    c.in_ok-recorded.ensures.operations

pub returns-clause-taken : goal.returns-clause-taken
returns-clause-taken c = taken_stays c.in_ok-bounds.ensures.taken (logs_performed c.in_ok-clear_octets.ensures.cleared.done)

pub returns-clause-few : goal.returns-clause-few
returns-clause-few c =
    let start : additions c.in_ok-recorded.recorded.operations ≡ 0 = ap additions c.in_ok-recorded.ensures.operations in
    let octets = rw c.args.system.octet_rows.width_is at c.in_ok-clear_octets.ensures.few in
    omega (arith, start, c.in_ok-bounds.ensures.few, octets)
