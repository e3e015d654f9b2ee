-- What the check leaves to show of `pi_solver::second_phase::take_ones`.
use Rattle.std.proofs.Common.{◌≡◌, ◌≢◌, ℕ, ◌+◌, ◌-◌, ◌<◌, ◌≤◌, sym, ap, ◌∙◌, arith, inl, inr}
use Rattle.std.proofs.lemmas.Bool.{cases_lt}
use Rattle.rq_algebra.specs.Systems.{at}
use Rattle.rq_parts.specs.DenseOctetMatrix.{entry_of}
use Rattle.rq_solver.specs.SecondPhase.{one_of}
use Rattle.rq_elimination.specs.OperationCounts.{additions, multiples, multiples-none}
use Rattle.rq_solver.proofs.CountLaws.{ones_passed, ones_taken}
use Rattle.rq_solver.proofs.Substitution.{one_of-one, one_of-other, reduced_none, reduced_next, reduced_zeros}
use Rattle.rq_solver.proofs.pi_solver.second_phase.take_ones.Goals as goal
use Rattle.rq_solver.proofs.pi_solver.second_phase.take_ones.Goals.{then-byte-eq1+in_ok-record_multiple, else-byte-eq1}

pub loop-f-init : goal.loop-f-init
loop-f-init c =
    let row = at c.args.rows.now c.args.place in
    let table = c.args.recorded.now.table in
    let start = c.args.place + 1 in
    let none : multiples (entry_of table row) start (start - start) ≡ 0 = ap (multiples (entry_of table row) start) (omega arith) ∙ multiples-none (entry_of table row) start in
    record {
      from = omega arith;
      within = omega (arith, c.requires.place);
      taken = reduced_none;
      few = omega (arith, none);
    }

pub loop-f-preserved : goal.loop-f-preserved
loop-f-preserved c =
    let v = c.loop-f.invariant in
    let rows = c.args.rows.now in
    let place = c.args.place in
    let row = at rows place in
    let start = place + 1 in
    let count = c.args.count in
    let old = c.args.recorded.now in
    let cur = c.loop-f.recorded in
    let from = c.loop-f.from in
    let f = c.in-Some.f in
    let scalar = c.in-Some.scalar in
    let has = λ (k : ℕ). entry_of old.table row k in
    let entries = λ (k : ℕ). one_of (entry_of old.table row k) in
    let forward : from ≤ f = c.in-Some.ensures.0.0 in
    let inside : f < count = c.in-Some.ensures.0.1 in
    let same = λ (k : ℕ). ap (λ table. entry_of table row k) v.taken.done.table in
    let scalar_is : scalar ≡ entry_of old.table row f = c.in-Some.ensures.1 ∙ same f in
    let none : (k : ℕ) → from ≤ k → k < f → entries k ≡ 0 = (λ (k : ℕ) (l : from ≤ k) (n : k < f). let zero = sym (same k) ∙ c.in-Some.ensures.0.3 k l n in one_of-other (has k) (λ e. omega (arith, e, zero))) in
    elim c.if-byte-eq1.branch [
      | then-byte-eq1+in_ok-record_multiple w ↦
          let one : scalar ≡ 1 = omega (arith, w.if-byte-eq1.true, c.byte.ensures) in
          let entry_one : has f ≡ 1 = sym scalar_is ∙ one in
          let more = w.in_ok-record_multiple.ensures.counted in
          let taken = ones_taken has start from (additions old.operations) (additions cur.operations) v.from v.few f forward entry_one in
          let apart : row ≢ at rows f = (λ e. let z : place ≡ f = c.requires.rows.apart place f (omega (arith, c.requires.place, c.requires.many)) (omega (arith, c.requires.many)) e in omega (arith, z, v.from, forward)) in
          rw w.recorded-is (record {
            from = omega (arith, v.from, forward);
            within = omega arith;
            taken = reduced_next f (omega (arith, v.from, forward)) inside apart scalar (omega (arith, one)) (one ∙ sym (one_of-one (has f) entry_one)) v.taken
                forward none w.in_ok-record_multiple.ensures.recorded;
            few = omega (arith, taken, more);
          })
      | else-byte-eq1 w ↦
          let other : has f ≢ 1 = (λ e. let one : scalar ≡ 1 = scalar_is ∙ e in omega (arith, one, w.if-byte-eq1.false, c.byte.ensures)) in
          rw w.recorded-is (record {
            from = omega (arith, v.from, forward);
            within = omega arith;
            taken = reduced_zeros (f + 1) v.taken (omega (arith, forward)) (λ k l n. elim (cases_lt k f) [
              | inl first ↦ none k l first
              | inr late ↦ let is : k ≡ f = omega arith in rw is (one_of-other (has f) other)
            ]);
            few = ones_passed has start from (additions old.operations) (additions cur.operations) v.from v.few (f + 1) (omega (arith, forward));
          })
    ]

pub returns-clause-few : goal.returns-clause-few
returns-clause-few c =
    let v = c.loop-f.invariant in
    let old = c.args.recorded.now in
    ones_passed (entry_of old.table (at c.args.rows.now c.args.place)) (c.args.place + 1) c.loop-f.from (additions old.operations) (additions c.loop-f.recorded.operations) v.from v.few c.args.count v.within
