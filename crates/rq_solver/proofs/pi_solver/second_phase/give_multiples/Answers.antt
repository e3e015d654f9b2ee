-- What the check leaves to show of `pi_solver::second_phase::give_multiples`.
use Rattle.std.proofs.Common.{◌≡◌, ◌≢◌, ℕ, ◌<◌, length, ap, ◌∙◌, arith}
use Rattle.rq_algebra.specs.Systems.{at}
use Rattle.rq_parts.specs.DenseOctetMatrix.{entry_of}
use Rattle.rq_solver.proofs.CountLaws.{multiples-counted, multiples-grow}
use Rattle.rq_solver.proofs.Substitution.{given_none, given_nothing, given_more}
use Rattle.rq_solver.proofs.pi_solver.second_phase.give_multiples.Goals as goal
use Rattle.rq_solver.proofs.pi_solver.second_phase.give_multiples.Goals.{then-byte-gt1+in_ok-record_multiple, else-byte-gt1}

pub loop-i-init : goal.loop-i-init
loop-i-init c = record { given = given_none; few = omega arith }

pub loop-i-preserved : goal.loop-i-preserved
loop-i-preserved c =
    let v = c.loop-i.invariant in
    let rows = c.args.rows.now in
    let place = c.args.place in
    let i = c.loop-i.i in
    let old = c.args.recorded.now in
    let early : i < place = c.loop-i-test.true in
    let in_rows : place < length rows = c.requires.place in
    let entries = λ (k : ℕ). entry_of old.table (at rows k) place in
    let scalar_is : c.get-scalar.result ≡ entries i = c.get-scalar.ensures ∙ ap (λ table. entry_of table (at rows i) place) v.given.done.table in
    let small : c.get-scalar.result < 256 = rw scalar_is (c.args.recorded.now.octets.elements (at rows i) place (c.requires.rows.below i (omega arith)) c.requires.column) in
    elim c.if-byte-gt1.branch [
      | then-byte-gt1+in_ok-record_multiple w ↦
          let above : 1 < c.get-scalar.result = omega (arith, w.if-byte-gt1.true, c.byte.ensures) in
          let other : c.get-scalar.result ≢ 1 = omega (arith, above) in
          let more = w.in_ok-record_multiple.ensures.counted in
          let counted = multiples-counted entries i (rw scalar_is at above) in
          rw w.recorded-is (record {
            given = given_more early in_rows c.requires.rows v.given c.get-scalar.result small other scalar_is w.in_ok-record_multiple.ensures.recorded;
            few = omega (arith, v.few, more, counted);
          })
      | else-byte-gt1 w ↦
          let below : c.get-scalar.result < 2 = omega (arith, w.if-byte-gt1.false, c.byte.ensures) in
          let grow = multiples-grow entries i in
          rw w.recorded-is (record { given = given_nothing early in_rows c.requires.rows v.given (rw scalar_is at below); few = omega (arith, v.few, grow) })
    ]
