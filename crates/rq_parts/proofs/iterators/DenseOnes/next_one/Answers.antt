-- What the check leaves to show of `iterators::DenseOnes::next_one`.
use Rattle.std.proofs.Common.{◌≡◌, ◌+◌, ◌-◌, ◌*◌, ◌^◌, ◌<◌, [], ◌∷◌, ap, sym, ◌∙◌, arith, w64}
use Rattle.std.specs.Prelude.{bit_and}
use Rattle.std.specs.Int.{bit_at, trailing_zeros}
use Rattle.std.proofs.lemmas.Nat.Bits.{bit_at-zero}
use Rattle.rq_parts.specs.OctetIter.{dense_ones_left}
use Rattle.rq_parts.specs.BitPairs.{ones_from}
use Rattle.rq_parts.proofs.DenseOnes.{none_left, next_word, lowest_is_next}
use Rattle.rq_parts.proofs.LowestOnes.{clears_lowest, lowest-lt}
use Rattle.rq_parts.proofs.iterators.DenseOnes.next_one.Goals as goal

pub returns-then-self-le-WORD_BITS : goal.returns-then-self-le-WORD_BITS
returns-then-self-le-WORD_BITS c =
    let d = c.loop-self.self-inside in
    let none : dense_ones_left d ≡ [] = none_left d.words.now d.word d.end d.bits (omega arith) c.loop-self.invariant.within.begins (λ k l. ap (λ n. bit_at n k) c.loop-self-test.true ∙ bit_at-zero k) in
    (sym c.self.view_is ∙ sym c.loop-self.invariant.ones ∙ none, none)

pub loop-self-preserved : goal.loop-self-preserved
loop-self-preserved c =
    let d = c.loop-self.self-inside in
    let more : 64 * d.word + 64 < d.end = omega arith in
    record {
      within = record { begins = omega (arith, more); within = c.loop-self.invariant.within.within };
      ones = sym (ap (λ n. ones_from d.words.now d.end d.word n) c.loop-self-test.true ∙ next_word d.words.now d.word d.end more) ∙ c.loop-self.invariant.ones;
    }

pub returns-then-column-self : goal.returns-then-column-self
returns-then-column-self c =
    let d = c.loop-self.self-inside in
    let fits : d.bits < 2 ^ 64 = omega arith in
    let clears = clears_lowest d.bits c.loop-self-test.false fits in
    let below = lowest-lt d.bits _ _ fits clears in
    let past = c.if-column-self.true in
    let none : dense_ones_left d ≡ [] = none_left d.words.now d.word d.end d.bits (omega (arith, past, below)) c.loop-self.invariant.within.begins (λ k l. clears.zeros k (omega (arith, past, l))) in
    (sym c.self.view_is ∙ sym c.loop-self.invariant.ones ∙ none, none)

pub returns : goal.returns
returns c =
    let d = c.loop-self.self-inside in
    let fits : d.bits < 2 ^ 64 = omega arith in
    let lowest = trailing_zeros w64 d.bits in
    let clears = clears_lowest d.bits c.loop-self-test.false fits in
    let inside = c.if-column-self.false in
    sym c.self.view_is
    ∙ sym c.loop-self.invariant.ones
    ∙ lowest_is_next d.words.now d.word d.end d.bits lowest (bit_and d.bits (d.bits - 1)) (lowest-lt d.bits _ _ fits clears) (omega (arith, inside)) clears
    ∙ ap (λ x. (64 * d.word + lowest, x) ∷ ones_from d.words.now d.end d.word (bit_and d.bits (d.bits - 1))) (sym c.one.ensures)
