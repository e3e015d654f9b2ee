-- What the check leaves to show of `packed_bits::word_with_zero`.
use Rattle.std.proofs.Common.{w64}
use Rattle.std.proofs.lemmas.Nat.Bits.{bit_at_clear_same, bit_at_clear_other}
use Rattle.rq_parts.proofs.packed_bits.word_with_zero.Goals as goal

pub returns : goal.returns
returns c = record {
  here = bit_at_clear_same w64 c.args.word c.args.bit c.requires;
  elsewhere = λ i below other. bit_at_clear_other w64 c.args.word c.args.bit c.requires i below other;
}
