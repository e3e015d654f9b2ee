-- What the check leaves to show of `pi_solver::first_phase::clear_bits::clear_rows`.
use Rattle.std.proofs.Common.{◌≡◌, ◌≤◌, ◌*◌, ℕ, List, ◌+◌, [], ◌∷◌, ◌++◌, length, ap, ◌∙◌, arith, length-append}
use Rattle.std.proofs.Math.Nat.{mul-le-mul_right}
use Rattle.rq_algebra.specs.Systems.{at}
use Rattle.rq_solver.specs.PivotAdditions.{TakesPivots}
use Rattle.rq_peeling.specs.RowOnes.{ones_of}
use Rattle.rq_solver.proofs.CountLaws.{one_turn_more}
use Rattle.rq_solver.proofs.LeftRows.{all_are, all_few, all_starts}
use Rattle.rq_solver.proofs.RowClearing.{clears_no_rows, clears_next_row}
use Rattle.rq_solver.proofs.TakenAgain.{taken_by_pivots, taken_first, taken_next}
use Rattle.rq_solver.proofs.pi_solver.first_phase.clear_bits.clear_rows.Goals as goal

pub overflow_add-count : goal.overflow_add-count
overflow_add-count c =
    let few = all_few (length c.args.ones.now) c.args.peeling.now.rows c.args.left.now c.requires.peeled.peeled.in_rows c.requires.listed in
    omega (arith, few, c.pivots.ensures, c.requires.height, c.args.recorded.now.few)

pub loop-place-init : goal.loop-place-init
loop-place-init c = record {
  few = omega arith;
  cleared = clears_no_rows;
  long = ap length c.in_ok-bounds.ensures.items;
  taken = rw c.in_ok-bounds.ensures.items taken_first;
}

pub take_pivots-requires-clause-row : goal.take_pivots-requires-clause-row
take_pivots-requires-clause-row c =
    let are = all_are (length c.args.ones.now) c.args.peeling.now.rows c.args.left.now c.requires.peeled.peeled.in_rows c.requires.listed in
    let long = length-append c.args.peeling.now.rows c.args.left.now in
    rw c.row_at.ensures (are.below c.loop-place.place (omega (arith, long, c.loop-place-test.true, c.pivots.ensures)))

pub take_pivots-requires-clause-height : goal.take_pivots-requires-clause-height
take_pivots-requires-clause-height c = c.loop-place.invariant.cleared.done.height ∙ c.requires.height

pub loop-place-preserved : goal.loop-place-preserved
loop-place-preserved c =
    let v = c.loop-place.invariant in
    let cur = c.loop-place.recorded in
    let new = c.take_pivots.new.recorded in
    let p = c.args.peeling.now in
    let all : List ℕ = p.rows ++ c.args.left.now in
    let t = c.loop-place.place in
    let turn : TakesPivots p.rows p.order (at all t) (ones_of c.args.ones.now (at all t)) cur new = rw c.row_at.ensures at c.in_ok-take_pivots.ensures.taken in
    let pushed : c.push.new.self.items ≡ c.loop-place.bounds.items ++ length cur.operations ∷ [] = c.in_ok-push.ensures.items ∙ ap (λ (n : ℕ). c.loop-place.bounds.items ++ n ∷ []) c.len.ensures in
    let are = c.requires.peeled.peeled.in_rows in
    record {
      few = one_turn_more (length p.rows) _ _ _ t v.few c.in_ok-take_pivots.ensures.few;
      cleared = clears_next_row c.requires.peeled.bits c.requires.peeled.peeled (all_starts _ p.rows c.args.left.now are c.requires.listed)
          (all_are _ p.rows c.args.left.now are c.requires.listed)
          (omega (arith, length-append p.rows c.args.left.now, c.loop-place-test.true, c.pivots.ensures)) v.cleared turn;
      long = ap length pushed ∙ length-append c.loop-place.bounds.items (length cur.operations ∷ []) ∙ ap (λ (n : ℕ). n + 1) v.long;
      taken = rw pushed (taken_next c.loop-place.bounds.items v.long v.taken turn);
    }

pub returns-clause-cleared : goal.returns-clause-cleared
returns-clause-cleared c =
    let long = length-append c.args.peeling.now.rows c.args.left.now in
    let all : c.loop-place.place ≡ length (c.args.peeling.now.rows ++ c.args.left.now) = omega (arith, long, c.loop-place.auto.place-end, c.loop-place-test.false, c.pivots.ensures) in
    rw (← all) c.loop-place.invariant.cleared

pub returns-clause-few : goal.returns-clause-few
returns-clause-few c =
    let pivots = length c.args.peeling.now.rows in
    let few = all_few (length c.args.ones.now) c.args.peeling.now.rows c.args.left.now c.requires.peeled.peeled.in_rows c.requires.listed in
    let most : c.loop-place.place * pivots ≤ length c.args.ones.now * pivots = mul-le-mul_right pivots (omega (arith, few, c.loop-place.auto.place-end, c.pivots.ensures)) in
    omega (arith, most, c.loop-place.invariant.few)

pub returns-clause-taken : goal.returns-clause-taken
returns-clause-taken c =
    let p = c.args.peeling.now in
    let state = c.loop-place.recorded in
    let listed : List ℕ = p.rows ++ c.args.left.now in
    let long = length-append p.rows c.args.left.now in
    let all : c.loop-place.place ≡ length listed = omega (arith, long, c.loop-place.auto.place-end, c.loop-place-test.false, c.pivots.ensures) in
    let pushed : c.push-2.new.self.items ≡ c.loop-place.bounds.items ++ length state.operations ∷ [] = c.in_ok-push-2.ensures.items ∙ ap (λ (n : ℕ). c.loop-place.bounds.items ++ n ∷ []) c.len-2.ensures in
    taken_by_pivots (omega (arith, long))
    (all_starts (length c.args.ones.now) p.rows c.args.left.now c.requires.peeled.peeled.in_rows c.requires.listed) (rw (pushed, ← all) c.loop-place.invariant.taken)
