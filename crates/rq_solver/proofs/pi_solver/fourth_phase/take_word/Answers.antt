-- What the check leaves to show of `pi_solver::fourth_phase::take_word`.
use Rattle.std.proofs.Common.{◌≡◌, ℕ, ◌+◌, ◌*◌, ◌-◌, ◌<◌, sym, arith, w64}
use Rattle.std.specs.Prelude.{bit_and}
use Rattle.std.specs.Int.{bit_at, trailing_zeros}
use Rattle.rq_parts.specs.DenseOctetMatrix.{entry_of}
use Rattle.rq_parts.proofs.LowestOnes.{ClearsLowest, clears_lowest}
use Rattle.rq_solver.proofs.ReducedWords.{lowest_inside, takes_all, takes_lowest, takes_no_ones}
use Rattle.rq_solver.proofs.pi_solver.fourth_phase.take_word.Goals as goal
use Rattle.rq_solver.proofs.pi_solver.fourth_phase.take_word.Goals.{In-loop-rest}

module _ (c : In-loop-rest) where
  is : (f : ℕ) → f < c.args.end - 64 * c.args.word → entry_of c.args.recorded.now.table c.args.row (64 * c.args.word + f) ≡ bit_at c.in-Some.bits f
  is f l = sym (c.in-Some.ensures f (omega (arith, c.requires.few, l)) (omega (arith, c.requires.width, l)))

  clears : ClearsLowest c.loop-rest.rest (trailing_zeros w64 c.loop-rest.rest) (bit_and c.loop-rest.rest (c.loop-rest.rest - 1))
  clears = clears_lowest c.loop-rest.rest c.loop-rest-test.true (omega arith)

  inside : trailing_zeros w64 c.loop-rest.rest < c.args.end - 64 * c.args.word
  inside = lowest_inside c.loop-rest.invariant is clears

pub loop-rest-init : goal.loop-rest-init
loop-rest-init c = takes_no_ones (omega (arith, c.requires.few))

pub bounds-inactive_rows-start : goal.bounds-inactive_rows-start
bounds-inactive_rows-start c = omega (arith, inside (goal.at.bounds-inactive_rows-start c).In-loop-rest, c.requires.many)

pub record_multiple-requires-clause-two : goal.record_multiple-requires-clause-two
record_multiple-requires-clause-two c =
    let within = inside (goal.at.record_multiple-requires-clause-two c).In-loop-rest in
    c.requires.rows.apart (64 * c.args.word + trailing_zeros w64 c.loop-rest.rest) (omega (arith, within, c.requires.many))

pub loop-rest-preserved : goal.loop-rest-preserved
loop-rest-preserved c =
    let before = (goal.at.loop-rest-preserved c).In-loop-rest in
    takes_lowest c.loop-rest.invariant (is before) (clears before)
    (c.requires.rows.apart (64 * c.args.word + trailing_zeros w64 c.loop-rest.rest) (omega (arith, inside before, c.requires.many)))
    (rw c.one.ensures at c.in_ok-record_multiple.ensures.recorded) c.in_ok-record_multiple.ensures.counted

pub returns-clause-taken : goal.returns-clause-taken
returns-clause-taken c =
    let whole : 64 * c.args.word + (c.args.end - 64 * c.args.word) ≡ c.args.end = omega (arith, c.requires.some) in
    rw whole at
    (takes_all c.loop-rest.invariant (λ f l. sym (c.in-Some.ensures f (omega (arith, c.requires.few, l)) (omega (arith, c.requires.width, l))))
    c.loop-rest-test.false)

pub returns-clause-few : goal.returns-clause-few
returns-clause-few c = omega (arith, c.loop-rest.invariant.few, c.loop-rest.invariant.before)
