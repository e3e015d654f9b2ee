-- What the check leaves to show of `pi_solver::second_phase::back_substitute`.
use Rattle.std.proofs.Common.{◌≡◌, ◌+◌, ◌-◌, ◌≤◌, ◌<◌, ℕ, ◌∙◌, arith}
use Rattle.rq_algebra.specs.Systems.{at}
use Rattle.rq_parts.specs.DenseOctetMatrix.{entry_of}
use Rattle.rq_elimination.specs.OperationCounts.{additions, multiples}
use Rattle.rq_solver.proofs.CountLaws.{back_turn}
use Rattle.rq_solver.proofs.Substitution.{back_none, back_more}
use Rattle.rq_solver.proofs.pi_solver.second_phase.back_substitute.Goals as goal

pub loop-done-init : goal.loop-done-init
loop-done-init c =
    let all : c.args.count - 0 ≡ c.args.count = omega arith in
    record {
      reduced = rw all back_none;
      few = omega arith;
    }

pub loop-done-preserved : goal.loop-done-preserved
loop-done-preserved c =
    let rows = c.args.rows.now in
    let count = c.args.count in
    let done = c.loop-done.done in
    let old = c.args.recorded.now in
    let cur = c.loop-done.recorded in
    let mid = c.take_ones.new.recorded in
    let new = c.give_multiples.new.recorded in
    let place : ℕ = count - 1 - done in
    let inside : place < count = omega arith in
    let was : count - done ≡ place + 1 = omega arith in
    let next : count - (done + 1) ≡ place = omega arith in
    let behind : count - (place + 1) ≡ done = omega arith in
    let v = c.loop-done.invariant in
    let taken = c.in_ok-take_ones.ensures in
    let entries = λ (i k : ℕ). entry_of old.table (at rows i) k in
    let same : cur.table ≡ old.table = v.reduced.done.table in
    let same_mid : mid.table ≡ old.table = taken.taken.done.table ∙ same in
    let ones : additions mid.operations + multiples (entries place) (place + 1) done ≤ additions cur.operations + done = rw (same, behind) at taken.few in
    let given : additions new.operations ≤ additions mid.operations + multiples (λ i. entries i place) 0 place = rw same_mid at c.in_ok-give_multiples.ensures.few in
    record {
      reduced = rw next (back_more place inside c.requires.rows c.requires.echelon (rw was at v.reduced) taken.taken c.in_ok-give_multiples.ensures.given);
      few = rw next (back_turn entries place done (additions old.operations) (additions cur.operations) (additions mid.operations) (additions new.operations) (rw was at v.few) ones given);
    }
