-- What the check leaves to show of `pi_solver::third_phase::sparsify_rows`.
use Rattle.std.proofs.Common.{◌≡◌, ◌≢◌, ℕ, ◌+◌, ◌-◌, ◌<◌, ◌≤◌, List, Bool, true, false, get_or, set, length, sym, ◌∙◌, ap, arith, inl, inr}
use Rattle.std.proofs.lemmas.Bool.{cases_eq}
use Rattle.std.proofs.lemmas.List.{get_or-set_same, get_or-set_other, get_or_read}
use Rattle.rq_algebra.specs.Systems.{at}
use Rattle.rq_solver.proofs.CountLaws.{one_turn_more}
use Rattle.rq_solver.proofs.FinishedPivots.{sparsifies_none, back_skipped, back_taken}
use Rattle.rq_elimination.proofs.Performing.{logs_performed}
use Rattle.rq_solver.proofs.TakenAgain.{pivots_stay, sums_between, taken_between, taken_stays}
use Rattle.rq_solver.proofs.pi_solver.third_phase.sparsify_rows.Goals as goal
use Rattle.rq_solver.proofs.pi_solver.third_phase.sparsify_rows.Goals.{then-saves+in_ok-redo_additions, else-saves}

pub loop-done-init : goal.loop-done-init
loop-done-init c =
    let all : length c.args.peeled.now.peeling.rows - 0 ≡ length c.args.peeled.now.peeling.rows = omega arith in
    record {
      taken = rw all (sparsifies_none c.args.peeled.now c.requires.taken.peeled c.args.sparse.now);
      short = λ p late l e. absurd (omega arith);
      few = omega arith;
    }

pub saves_additions-saves-requires-clause-taken : goal.saves_additions-saves-requires-clause-taken
saves_additions-saves-requires-clause-taken c = pivots_stay c.requires.taken (logs_performed c.loop-done.invariant.taken.done)

pub redo_additions-requires-clause-sums : goal.redo_additions-requires-clause-sums
redo_additions-requires-clause-sums c =
    let rows = c.args.peeled.now.peeling.rows in
    let bounds = c.args.peeled.now.bounds.items in
    let place : ℕ = length c.loop-done.sparse - 1 - c.loop-done.done in
    let taken = c.requires.taken.taken in
    let in_rows : place < length rows = omega (arith, c.loop-done.auto.sparse, c.requires.long, c.loop-done-test.true) in
    let start : c.index.result.now ≡ at bounds place = get_or_read bounds place c.index.result.now (omega (arith, taken.many, in_rows)) c.index.ensures 0 in
    let end : c.index-then-saves.result.now ≡ at bounds (place + 1) = get_or_read bounds (place + 1) c.index-then-saves.result.now (omega (arith, taken.many, in_rows)) c.index-then-saves.ensures 0 in
    let stands = taken_stays taken (logs_performed c.loop-done.invariant.taken.done) in
    rw (c.row_of-row.ensures, start, end) (sums_between stands place in_rows)

pub loop-done-preserved : goal.loop-done-preserved
loop-done-preserved c =
    let has = c.requires.taken in
    let rows = c.args.peeled.now.peeling.rows in
    let bounds = c.args.peeled.now.bounds.items in
    let marks = c.loop-done.sparse in
    let done = c.loop-done.done in
    let long : length marks ≡ length rows = c.loop-done.auto.sparse ∙ c.requires.long in
    let place : ℕ = length marks - 1 - done in
    let saves = c.saves_additions-saves.result in
    let now : List Bool = set marks place saves in
    let in_rows : place < length rows = omega (arith, long, c.loop-done-test.true) in
    let in_marks : place < length marks = omega (arith, long, in_rows) in
    let was : length rows - done ≡ place + 1 = omega (arith, long, c.loop-done-test.true) in
    let next : length rows - (done + 1) ≡ place = omega (arith, long, c.loop-done-test.true) in
    let v = c.loop-done.invariant in
    let taken = has.taken in
    let stands = taken_stays taken (logs_performed v.taken.done) in
    let same : (p : ℕ) → p ≢ place → get_or now p false ≡ get_or marks p false = (λ (p : ℕ) (d : p ≢ place). get_or-set_other marks place p saves false d) in
    let here : get_or now place false ≡ saves = get_or-set_same marks place saves false in_marks in
    let so_far = rw was at v.taken in
    let short : (p : ℕ) → length rows - (done + 1) ≤ p → p < length rows → get_or now p false ≡ true → at bounds (p + 1) - at bounds p ≤ c.args.peeled.now.sparsify_limit = (λ (p : ℕ) (late : length rows - (done + 1) ≤ p) (l : p < length rows) (e : get_or now p false ≡ true). elim (cases_eq p place) [
      | inl f ↦ rw f (c.saves_additions-saves.ensures (sym here ∙ ap (λ (n : ℕ). get_or now n false) (sym f) ∙ e))
      | inr d ↦ v.short p (omega (arith, was, next, late, d)) l (sym (same p d) ∙ e)
    ]) in
    elim c.if-saves.branch [
      | then-saves+in_ok-redo_additions w ↦
          let start : w.index.result.now ≡ at bounds place = get_or_read bounds place w.index.result.now (omega (arith, taken.many, in_rows)) w.index.ensures 0 in
          let end : w.index-then-saves.result.now ≡ at bounds (place + 1) = get_or_read bounds (place + 1) w.index-then-saves.result.now (omega (arith, taken.many, in_rows)) w.index-then-saves.ensures 0 in
          rw w.recorded-is (record {
            taken = rw next (back_taken c.args.peeled.now has.peeled marks now in_rows so_far same
                (taken_between stands place in_rows (rw (start, end) at w.in_ok-redo_additions.ensures.done)) (here ∙ w.if-saves.true));
            short = short;
            few =
                let few_rows = c.saves_additions-saves.ensures w.if-saves.true in
                let each = w.in_ok-redo_additions.ensures.few in
                one_turn_more c.args.peeled.now.sparsify_limit _ _ _ done v.few (omega (arith, each, few_rows, start, end));
          })
      | else-saves w ↦ rw w.recorded-is (record {
        taken = rw next (back_skipped c.args.peeled.now has.peeled marks now in_rows so_far same (here ∙ w.if-saves.false));
        short = short;
        few = one_turn_more c.args.peeled.now.sparsify_limit _ _ _ done v.few (omega arith);
      })
    ]
