-- What the check leaves to show of `iterators::DenseBits::next_column`.
use Rattle.std.proofs.Common.{◌≡◌, ℕ, ◌+◌, ◌-◌, ◌*◌, ◌<◌, ◌∷◌, [], ap, sym, ◌∙◌, arith}
use Rattle.rq_parts.specs.BitPairs.{bit_pairs}
use Rattle.rq_parts.proofs.BitPairLaws.{bit_pairs-none, bit_pairs-step}
use Rattle.rq_parts.proofs.iterators.DenseBits.next_column.Goals as goal
use Rattle.rq_parts.proofs.iterators.DenseBits.next_column.Goals.{then-self-eq-WORD_BITS, else-self-eq-WORD_BITS}

pub returns-then-self : goal.returns-then-self
returns-then-self c =
    let b = c.self.inside in
    let none : c.args.self.now ≡ [] = sym c.self.view_is ∙ bit_pairs-none b.words.now (64 * b.word + b.bit) b.column (b.end - b.column) (omega arith) in
    (none, none)

pub returns : goal.returns
returns c =
    let b = c.self.inside in
    let words = b.words.now in
    let left = λ (n : ℕ). (b.column, c.new-octet.result) ∷ bit_pairs words n (b.column + 1) (b.end - (b.column + 1)) in
    let before : b.column < b.end = let other = c.if-self.false in let range = c.self.invariant.range in omega arith in
    let next =
    sym c.self.view_is
    ∙ bit_pairs-step words b.word b.bit b.column b.end c.self.invariant.bit_below before
    ∙ ap (λ x. (b.column, x) ∷ bit_pairs words (64 * b.word + b.bit + 1) (b.column + 1) (b.end - (b.column + 1))) (sym c.new-octet.ensures)
    in
    elim c.if-self-eq-WORD_BITS.branch [
      | then-self-eq-WORD_BITS w ↦
          let place : 64 * b.word + b.bit + 1 ≡ 64 * (b.word + 1) + 0 = let last = w.if-self-eq-WORD_BITS.true in omega arith in
          next ∙ ap left place ∙ ap (λ l. (b.column, c.new-octet.result) ∷ l) (sym w.self-is)
      | else-self-eq-WORD_BITS w ↦
          let place : 64 * b.word + b.bit + 1 ≡ 64 * b.word + (b.bit + 1) = omega arith in
          next ∙ ap left place ∙ ap (λ l. (b.column, c.new-octet.result) ∷ l) (sym w.self-is)
    ]
