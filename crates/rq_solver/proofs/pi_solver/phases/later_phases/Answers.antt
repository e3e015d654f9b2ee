-- What the check leaves to show of `pi_solver::phases::later_phases`.
use Rattle.std.proofs.Common.{◌≡◌, ◌-◌, refl, arith}
use Rattle.rq_solver.specs.Peeled.{inactive_count, IsUnderWay}
use Rattle.rq_solver.specs.Phases.{SolvesInactive}
use Rattle.rq_solver.proofs.FinishedPivots.{echelon_stays}
use Rattle.rq_solver.proofs.LaterPhases.{few_solved, finds_none, finds_rows, still_reordered, still_under_way}
use Rattle.rq_elimination.proofs.Performing.{logs_performed, logs_recorded}
use Rattle.rq_solver.proofs.pi_solver.phases.later_phases.Goals as goal
use Rattle.rq_solver.proofs.pi_solver.phases.later_phases.Goals.{After-len-eliminated, After-rows_in_order}

-- ---- behind the elimination

module _ (c : After-len-eliminated) where
  counted : c.width.result - c.pivots.result ≡ inactive_count c.args.peeled.now.peeling
  counted = omega (arith, c.width.ensures, c.pivots.ensures)

  forward : IsUnderWay c.args.peeled.now c.eliminate.new.rows c.eliminate.new.recorded
  forward =
      let made = c.in_ok-found.ensures in
      still_under_way (still_reordered c.args.left.now c.eliminate.new.rows c.requires.under_way made.permuted made.rows) (logs_performed made.steps.performs)

pub returns-then-not-found-clause-left : goal.returns-then-not-found-clause-left
returns-then-not-found-clause-left c = forward (goal.at.returns-then-not-found-clause-left c).After-len-eliminated

pub returns-then-not-found-clause-found : goal.returns-then-not-found-clause-found
returns-then-not-found-clause-found c =
    let made = c.in_ok-found.ensures in
    let n = counted (goal.at.returns-then-not-found-clause-found c).After-len-eliminated in
    finds_none c.args.peeled.now c.args.left.now c.eliminate.new.rows c.args.recorded.now c.eliminate.new.recorded _ c.requires.under_way c.requires.listed
    (record { permuted = made.permuted; changes = made.steps; stuck = rw (c.if-not-found.true, n) at made.pivots; stretches = refl })

pub sparsify-requires : goal.sparsify-requires
sparsify-requires c = (forward (goal.at.sparsify-requires c).After-len-eliminated).pivots

pub back_substitute-requires-clause-echelon : goal.back_substitute-requires-clause-echelon
back_substitute-requires-clause-echelon c =
    let now = forward (goal.at.back_substitute-requires-clause-echelon c).After-len-eliminated in
    echelon_stays c.in_ok-sparse.sparse.items c.in_ok-sparse.ensures.taken now (omega (arith, now.pivots.wide, c.width.ensures, c.pivots.ensures))
    (rw c.if-not-found.false at c.in_ok-found.ensures.pivots)

pub clear_inactive-requires-clause-under_way : goal.clear_inactive-requires-clause-under_way
clear_inactive-requires-clause-under_way c =
    let now = forward (goal.at.clear_inactive-requires-clause-under_way c).After-len-eliminated in
    still_under_way (still_under_way now (logs_performed c.in_ok-sparse.ensures.taken.done)) (logs_recorded c.in_ok-back_substitute.ensures.reduced.done)

-- ---- behind all phases

module _ (c : After-rows_in_order) where
  solved : SolvesInactive c.args.peeled.now c.args.left.now c.eliminate.new.rows c.args.recorded.now c.clear_inactive.new.recorded
      (record { cleared = c.len-cleared.result; eliminated = c.len-eliminated.result; sparsified = c.len-sparsified.result; substituted = c.len-substituted.result })
  solved =
      let made = c.in_ok-found.ensures in
      let n : c.width.result - c.pivots.result ≡ inactive_count c.args.peeled.now.peeling = omega (arith, c.width.ensures, c.pivots.ensures) in
      record {
        forward = c.eliminate.new.recorded;
        sparse = c.sparsify.new.recorded;
        back = c.back_substitute.new.recorded;
        marks = c.in_ok-sparse.sparse.items;
        permuted = made.permuted;
        changes = made.steps;
        echelon = rw (c.if-not-found.false, n) at made.pivots;
        sparsifies = c.in_ok-sparse.ensures.taken;
        reduces = rw n at c.in_ok-back_substitute.ensures.reduced;
        finishes = rw c.as_slice.ensures.value at c.in_ok-clear_inactive.ensures.finished;
        stretches = rw (c.len-cleared.ensures, c.len-eliminated.ensures, c.len-sparsified.ensures, c.len-substituted.ensures) refl;
      }

pub returns-clause-phases : goal.returns-clause-phases
returns-clause-phases c = solved (goal.at.returns-clause-phases c).After-rows_in_order

pub returns-clause-found : goal.returns-clause-found
returns-clause-found c =
    finds_rows c.args.peeled.now c.args.left.now c.eliminate.new.rows c.args.recorded.now c.clear_inactive.new.recorded _ c.requires.under_way c.requires.listed
    (solved (goal.at.returns-clause-found c).After-rows_in_order) c.in_ok-order.order c.in_ok-order.ensures

pub returns-clause-few : goal.returns-clause-few
unfolding solved
returns-clause-few c =
    let n : c.width.result - c.pivots.result ≡ inactive_count c.args.peeled.now.peeling = omega (arith, c.width.ensures, c.pivots.ensures) in
    few_solved c.args.peeled.now c.args.left.now c.eliminate.new.rows c.args.recorded.now c.clear_inactive.new.recorded _
    (solved (goal.at.returns-clause-few c).After-rows_in_order) (rw (c.if-not-found.false, n) at c.in_ok-found.ensures.few) c.in_ok-sparse.ensures.few
    (rw n at c.in_ok-back_substitute.ensures.few) c.in_ok-clear_inactive.ensures.few
