-- What the check leaves to show of `pi_solver::second_phase::clear_below`.
use Rattle.std.proofs.Common.{◌<◌, length, [], ◌∷◌, arith}
use Rattle.rq_algebra.specs.Systems.{at}
use Rattle.rq_elimination.proofs.Performing.{changes_none, changes_among, two_among, changes_more}
use Rattle.rq_solver.proofs.EchelonRows.{below_none, below_more}
use Rattle.rq_solver.proofs.pi_solver.second_phase.clear_below.Goals as goal

pub loop-i-init : goal.loop-i-init
loop-i-init c = record {
  steps = changes_none _ _;
  cleared = below_none c.args.rows.now c.args.pivot c.requires.pivot c.args.recorded.now.table;
  few = omega arith;
}

pub loop-i-preserved : goal.loop-i-preserved
loop-i-preserved c =
    let v = c.loop-i.invariant in
    let rows = c.args.rows.now in
    let pivot = c.args.pivot in
    let old = c.args.recorded.now in
    let cur = c.loop-i.recorded in
    let new = c.clear_entry.new.recorded in
    let in_rows : c.loop-i.i < length rows = c.loop-i-test.true in
    let more = changes_among (at rows c.loop-i.i ∷ at rows pivot ∷ []) rows (two_among rows c.loop-i.i pivot in_rows c.requires.pivot) cur new c.in_ok-clear_entry.ensures.steps in
    record {
      steps = changes_more rows old cur new v.steps more;
      cleared = below_more rows pivot c.requires.pivot c.loop-i.i old.table cur.table new.table c.requires.rows (omega (arith, c.loop-i.auto.i)) in_rows c.requires.column v.steps.performs.height v.steps.performs.width v.cleared c.in_ok-clear_entry.ensures.added;
      few = (let one = c.in_ok-clear_entry.ensures.few in let so_far = v.few in omega (arith, one, so_far));
    }
