-- What the check leaves to show of `pi_solver::fourth_phase::take_octets`.
use Rattle.std.proofs.Common.{◌≡◌, ℕ, ◌<◌, ◌≤◌, sym, ap, ◌∙◌, arith}
use Rattle.rq_parts.specs.DenseOctetMatrix.{entry_of}
use Rattle.rq_solver.proofs.Substitution.{reduced_none, reduced_next}
use Rattle.rq_solver.proofs.pi_solver.fourth_phase.take_octets.Goals as goal

pub loop-column-init : goal.loop-column-init
loop-column-init c = record {
  from = omega arith;
  within = c.requires.ordered;
  taken = reduced_none;
  few = omega arith;
}

pub loop-column-preserved : goal.loop-column-preserved
loop-column-preserved c =
    let column = c.in-Some.column in
    let v = c.loop-column.invariant in
    let old = c.args.recorded.now in
    let entries = entry_of old.table c.args.row in
    let forward : c.loop-column.from ≤ column = c.in-Some.ensures.0.0 in
    let inside : column < c.args.end = c.in-Some.ensures.0.1 in
    let same = λ (k : ℕ). ap (λ table. entry_of table c.args.row k) v.taken.done.table in
    let scalar_is : c.in-Some.scalar ≡ entries column = c.in-Some.ensures.1 ∙ same column in
    let small : c.in-Some.scalar < 256 = rw scalar_is (old.octets.elements c.args.row column c.requires.rows.taker (omega (arith, inside, c.requires.width))) in
    record {
      from = omega (arith, v.from, forward);
      within = omega (arith, inside);
      taken = reduced_next column (omega (arith, v.from, forward)) inside (c.requires.rows.apart column (omega (arith, inside, c.requires.many)))
          c.in-Some.scalar small scalar_is v.taken forward (λ k l n. sym (same k) ∙ c.in-Some.ensures.0.3 k l n) c.in_ok-record_multiple.ensures.recorded;
      few =
          let more = c.in_ok-record_multiple.ensures.counted in
          let so_far = v.few in
          omega (arith, more, so_far, forward, v.from);
    }
