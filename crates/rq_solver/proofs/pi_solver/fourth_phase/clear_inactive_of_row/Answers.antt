-- What the check leaves to show of `pi_solver::fourth_phase::clear_inactive_of_row`.
use Rattle.std.proofs.Common.{◌≡◌, ℕ, ◌+◌, ◌*◌, ◌<◌, min, subst, arith}
use Rattle.std.proofs.lemmas.Grind.{div_ceil_times}
use Rattle.rq_parts.specs.DenseOctetMatrix.{entry_of}
use Rattle.rq_solver.specs.SecondPhase.{ClearsColumns}
use Rattle.rq_solver.proofs.Substitution.{reduced_none}
use Rattle.rq_solver.proofs.ReducedWords.{reduced_join}
use Rattle.rq_solver.proofs.pi_solver.fourth_phase.clear_inactive_of_row.Goals as goal

pub loop-word-init : goal.loop-word-init
loop-word-init c =
    let none : min c.args.inactive (64 * 0) ≡ 0 = omega arith in
    record {
      taken = rw none reduced_none;
      few = omega arith;
    }

pub loop-word-preserved : goal.loop-word-preserved
loop-word-preserved c =
    let v = c.loop-word.invariant in
    let rows = c.args.inactive_rows.now in
    let inactive = c.args.inactive in
    let word = c.loop-word.word in
    let cur = c.loop-word.recorded in
    let words = div_ceil_times inactive 64 (omega arith) in
    let before : 64 * word < inactive = omega (arith, words.1, c.loop-word-test.true, c.div_ceil-word-end.ensures) in
    let here : min inactive (64 * word) ≡ 64 * word = omega (arith, before) in
    let next : c.min.result ≡ min inactive (64 * (word + 1)) = omega (arith, c.min.ensures) in
    let end : ℕ = min inactive (64 * (word + 1)) in
    let new = c.take_word.new.recorded in
    let turn = subst (λ t. ClearsColumns rows c.args.row (64 * word) end end (entry_of t c.args.row) cur new) v.taken.done.table (rw next at c.in_ok-take_word.ensures.taken) in
    record {
      taken = reduced_join (64 * word) end (omega arith) (omega (arith, before)) (omega arith)
          (λ f l n. c.requires.rows.apart f (omega (arith, n, c.requires.many))) (rw here at v.taken) turn;
      few = omega (arith, v.few, c.in_ok-take_word.ensures.few, next, here, before);
    }

pub returns-clause-taken : goal.returns-clause-taken
returns-clause-taken c =
    let words = div_ceil_times c.args.inactive 64 (omega arith) in
    let all : min c.args.inactive (64 * c.loop-word.word) ≡ c.args.inactive = omega (arith, words.0, c.loop-word-test.false, c.div_ceil-word-end.ensures) in
    rw all at c.loop-word.invariant.taken
