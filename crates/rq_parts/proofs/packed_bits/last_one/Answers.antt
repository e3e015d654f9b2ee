-- What the check leaves to show of `packed_bits::last_one`.
use Rattle.std.proofs.Common.{subst, sym, MatchOption}
use Rattle.std.specs.Int.{bit_at}
use Rattle.rq_parts.specs.PackedBits.{HasZerosBetween, IsLastOne}
use Rattle.rq_parts.proofs.PackedBits.{no_ones-low, last_one-low}
use Rattle.rq_parts.proofs.packed_bits.last_one.Goals as goal

pub returns-in_err-checked_ilog2 : goal.returns-in_err-checked_ilog2
returns-in_err-checked_ilog2 c =
    let word = c.args.word in
    let end = c.args.end in
    subst (λ o. MatchOption o (HasZerosBetween (bit_at word) 0 end) (IsLastOne (bit_at word) end)) (sym c.from_residual.ensures) (no_ones-low word end c.requires.within c.in_err-checked_ilog2.ensures.none)

pub returns : goal.returns
returns c = let logarithm = c.in_ok-checked_ilog2 in last_one-low c.args.word c.args.end c.requires.within logarithm.field-0 logarithm.ensures.power_le logarithm.ensures.next_power_gt
