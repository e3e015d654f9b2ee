-- What the check leaves to show of `pi_solver::fourth_phase::clear_inactive`.
use Rattle.rq_solver.proofs.FinishedPivots.{finish_none, finish_plain, finish_again}
use Rattle.std.proofs.Common.{◌≡◌, ◌≢◌, ◌+◌, ◌-◌, ◌<◌, ℕ, length, arith}
use Rattle.std.proofs.lemmas.List.{get_or_read}
use Rattle.rq_algebra.specs.Systems.{at}
use Rattle.rq_solver.specs.Peeled.{inactive_count}
use Rattle.rq_solver.specs.PivotAdditions.{PivotsHaveTaken}
use Rattle.rq_solver.proofs.CountLaws.{one_turn_more}
use Rattle.rq_elimination.proofs.Performing.{logs_recorded}
use Rattle.rq_solver.proofs.TakenAgain.{pivots_stay, sums_between, taken_between}
use Rattle.rq_solver.proofs.pi_solver.fourth_phase.clear_inactive.Goals as goal
use Rattle.rq_solver.proofs.pi_solver.fourth_phase.clear_inactive.Goals.{In_ok-clear_inactive_of_row, then-sparse-place+in_ok-redo_additions, else-sparse-place}

pub loop-place-init : goal.loop-place-init
loop-place-init c = record {
  finished = finish_none c.args.peeled.now c.requires.under_way.pivots.peeled;
  few = omega arith;
}

pub clear_inactive_of_row-requires-clause-rows : goal.clear_inactive_of_row-requires-clause-rows
clear_inactive_of_row-requires-clause-rows c =
    let under = c.requires.under_way in
    let t = c.loop-place.place in
    let inside : t < length c.args.peeled.now.peeling.rows = omega (arith, c.loop-place-test.true, c.pivots-place-end.ensures) in
    rw (c.row_of-row.ensures, c.loop-place.invariant.finished.done.table) (record {
      taker = rw under.pivots.height (under.pivots.peeled.peeled.in_rows.below t inside);
      rows = under.listed;
      apart = λ f l. under.apart t f inside l;
    })

-- what the pivots' rows took still stands in the operations
module _ (c : In_ok-clear_inactive_of_row) where
  in_rows : c.loop-place.place < length c.args.peeled.now.peeling.rows
  in_rows = omega (arith, c.loop-place-test.true, c.pivots-place-end.ensures)

  stands : PivotsHaveTaken c.args.peeled.now.ones c.args.peeled.now.peeling c.args.peeled.now.bounds.items c.clear_inactive_of_row.new.recorded
  stands =
      let first = pivots_stay c.requires.under_way.pivots (logs_recorded c.loop-place.invariant.finished.done) in
      (pivots_stay first (logs_recorded c.in_ok-clear_inactive_of_row.ensures.taken.done)).taken

pub redo_additions-requires-clause-sums : goal.redo_additions-requires-clause-sums
redo_additions-requires-clause-sums c =
    let before = (goal.at.redo_additions-requires-clause-sums c).In_ok-clear_inactive_of_row in
    let p = c.args.peeled.now in
    let bounds = p.bounds.items in
    let t = c.loop-place.place in
    let within : t + 1 < length bounds = omega (arith, c.requires.under_way.pivots.taken.many, in_rows before) in
    let start : c.index.result.now ≡ at bounds t = get_or_read bounds t c.index.result.now (omega (arith, within)) c.index.ensures 0 in
    let end : c.index-then-sparse-place.result.now ≡ at bounds (t + 1) = get_or_read bounds (t + 1) c.index-then-sparse-place.result.now within c.index-then-sparse-place.ensures 0 in
    rw (c.row_of-row.ensures, start, end) (sums_between (stands before) t (in_rows before))

pub loop-place-preserved : goal.loop-place-preserved
loop-place-preserved c =
    let before = (goal.at.loop-place-preserved c).In_ok-clear_inactive_of_row in
    let v = c.loop-place.invariant in
    let p = c.args.peeled.now in
    let rows = p.peeling.rows in
    let has = c.requires.under_way.pivots in
    let bounds = p.bounds.items in
    let left = c.args.left.now in
    let count = inactive_count p.peeling in
    let t = c.loop-place.place in
    let inside = in_rows before in
    let within : t + 1 < length bounds = omega (arith, has.taken.many, inside) in
    let counted : c.width.result - c.pivots.result ≡ count = omega (arith, c.width.ensures, c.pivots.ensures) in
    let sums = rw counted at c.in_ok-clear_inactive_of_row.ensures.few in
    let turn = rw (c.row_of-row.ensures, counted) at c.in_ok-clear_inactive_of_row.ensures.taken in
    let apart : (q f : ℕ) → q < length rows → f < count → at rows q ≢ at left f =
    (λ (q f : ℕ) (l : q < length rows) (n : f < count). c.requires.under_way.apart q f l (omega (arith, c.requires.many))) in
    elim c.if-sparse-place.branch [
      | then-sparse-place+in_ok-redo_additions w ↦
          let start : w.index.result.now ≡ at bounds t = get_or_read bounds t w.index.result.now (omega (arith, within)) w.index.ensures 0 in
          let end : w.index-then-sparse-place.result.now ≡ at bounds (t + 1) = get_or_read bounds (t + 1) w.index-then-sparse-place.result.now within w.index-then-sparse-place.ensures 0 in
          let again = taken_between (stands before) t inside (rw (start, end) at w.in_ok-redo_additions.ensures.done) in
          rw w.recorded-is (record {
            finished = finish_again p has.peeled inside v.finished turn apart again w.if-sparse-place.true;
            few =
                let each = rw (start, end) at w.in_ok-redo_additions.ensures.few in
                let short = c.requires.short t (omega (arith, inside, c.requires.long)) w.if-sparse-place.true in
                one_turn_more (count + p.sparsify_limit) _ _ _ t v.few (omega (arith, sums, each, short));
          })
      | else-sparse-place w ↦ rw w.recorded-is (record {
        finished = finish_plain p has.peeled inside v.finished turn apart w.if-sparse-place.false;
        few = one_turn_more (count + p.sparsify_limit) _ _ _ t v.few (omega (arith, sums));
      })
    ]
