-- What the check leaves to show of `pi_solver::redo_additions::redo_additions`.
use Rattle.std.proofs.Common.{◌≡◌, [], ◌∷◌, sym, ◌∙◌, arith}
use Rattle.std.proofs.lemmas.Option.{none-some, same_Some}
use Rattle.rq_algebra.specs.Operations.{AddAssign}
use Rattle.rq_peeling.proofs.ListParts.{range_none}
use Rattle.rq_solver.proofs.TakenAgain.{next_sum}
use Rattle.rq_solver.proofs.pi_solver.redo_additions.redo_additions.Goals as goal
use Rattle.rq_solver.proofs.pi_solver.redo_additions.redo_additions.Goals.{After-source, in-Some+in_ok-redo, in_default}

pub loop-place-init : goal.loop-place-init
loop-place-init g c = record {
  from = omega arith;
  again = rw (range_none c.args.recorded.now.operations c.args.start) (g.met.R.Redo.none c.args.recorded.now);
  few = omega arith;
}

pub redo-requires-clause-two : goal.redo-requires-clause-two
redo-requires-clause-two g c = λ e.
    let v = c.loop-place.invariant in
    let sum = next_sum c.requires.sums c.requires.within v.from c.loop-place-test.true _ (g.met.R.Redo.recorded _ c.args.recorded.now c.loop-place.recorded v.again) c.source.ensures in
    sum.other (same_Some sum.source c.in-Some.source (sym sum.is ∙ c.in-Some.is) ∙ sym e)

pub redo-requires-clause-source : goal.redo-requires-clause-source
redo-requires-clause-source g c =
    let v = c.loop-place.invariant in
    let high = g.met.R.Redo.height _ c.args.recorded.now c.loop-place.recorded v.again in
    let sum = next_sum c.requires.sums c.requires.within v.from c.loop-place-test.true _ (g.met.R.Redo.recorded _ c.args.recorded.now c.loop-place.recorded v.again) c.source.ensures in
    rw (high, ← same_Some sum.source c.in-Some.source (sym sum.is ∙ c.in-Some.is)) sum.within

pub loop-place-preserved : goal.loop-place-preserved
loop-place-preserved g c =
    let v = c.loop-place.invariant in
    let old = c.args.recorded.now in
    let cur = c.loop-place.recorded in
    let sum = next_sum c.requires.sums c.requires.within v.from c.loop-place-test.true _ (g.met.R.Redo.recorded _ old cur v.again) c.source.ensures in
    elim c.match-source.branch [
      | in-Some+in_ok-redo w ↦
          let is : sum.source ≡ w.in-Some.source = same_Some sum.source w.in-Some.source (sym sum.is ∙ w.in-Some.is) in
          rw w.recorded-is (record {
            from = omega (arith, v.from);
            again = rw sum.steps (g.met.R.Redo.more _ (AddAssign c.args.row sum.source ∷ []) old cur w.redo.new.recorded v.again (rw (← is) at w.in_ok-redo.ensures.added));
            few = (let counted = w.in_ok-redo.ensures.counted in let so_far = v.few in omega (arith, counted, so_far, v.from));
          })
      | in_default w ↦ absurd (none-some sum.source (sym w.in_default.is ∙ sum.is))
    ]
