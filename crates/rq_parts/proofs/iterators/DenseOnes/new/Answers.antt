-- What the check leaves to show of `iterators::DenseOnes::new`.
use Rattle.std.proofs.Common.{ℕ, ◌/◌, ap, ◌∙◌}
use Rattle.rq_parts.specs.BitPairs.{ones_from}
use Rattle.rq_parts.proofs.DenseOnes.{ones_of_range, none_of_range}
use Rattle.rq_parts.proofs.iterators.DenseOnes.new.Goals as goal
use Rattle.rq_parts.proofs.iterators.DenseOnes.new.Goals.{then-start-end, else-start-end}

pub returns : goal.returns
returns c =
    let ones = λ (bits : ℕ). ones_from c.args.words.now c.args.end (c.args.start / 64) bits in
    elim c.if-start-end.branch [
      | then-start-end w ↦ ap ones w.bits-is ∙ ones_of_range c.args.words.now c.args.start c.args.end c.requires.range
      | else-start-end w ↦ ap ones w.bits-is ∙ none_of_range c.args.words.now c.args.start c.args.end c.requires.range w.if-start-end.false
    ]
