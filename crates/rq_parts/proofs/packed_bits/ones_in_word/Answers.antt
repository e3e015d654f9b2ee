-- What the check leaves to show of `packed_bits::ones_in_word`.
use Rattle.std.proofs.Common.{◌≤◌, ℕ, ◌+◌, ◌-◌, subst, sym, arith}
use Rattle.std.specs.Int.{bit_at}
use Rattle.std.proofs.lemmas.Nat.Bits.{bit_at-lt}
use Rattle.rq_parts.proofs.CountedOnes.{count_ones-part, ones_below-le}
use Rattle.rq_parts.proofs.packed_bits.ones_in_word.Goals as goal

pub returns-clause-ones : goal.returns-clause-ones
returns-clause-ones c = count_ones-part c.args.word c.args.bit c.args.count (64 - c.args.count) (omega arith)

pub returns-clause-few : goal.returns-clause-few
returns-clause-few c =
    subst (λ (n : ℕ). n ≤ c.args.count) (sym (count_ones-part c.args.word c.args.bit c.args.count (64 - c.args.count) (omega arith)))
    (ones_below-le (λ k. bit_at c.args.word (c.args.bit + k)) c.args.count (λ k _. bit_at-lt c.args.word (c.args.bit + k)))
