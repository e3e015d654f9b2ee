-- What the check leaves to show of `packed_bits::word_flipped`.
use Rattle.std.proofs.Common.{◌≡◌, ℕ, ◌+◌, ◌%◌, ◌^◌, ap, ◌∙◌, arith, lit<}
use Rattle.std.specs.Int.{bit_at}
use Rattle.std.specs.Int.Bits.{bit_xor}
use Rattle.std.proofs.lemmas.Nat.Bits.{bit_at-lt, bit_at_xor, bit_at-pow_same, bit_at-pow_other}
use Rattle.rq_parts.proofs.BitPairLaws.{sum_of_bits}
use Rattle.rq_parts.proofs.packed_bits.word_flipped.Goals as goal

pub returns : goal.returns
returns c =
    let word = c.args.word in
    let bit = c.args.bit in
    let xored : (i : ℕ) → bit_at (bit_xor word c.select_mask.result) i ≡ (bit_at word i + bit_at (2 ^ bit) i) % 2 = λ i.
    ap (λ (n : ℕ). bit_at (bit_xor word n) i) c.select_mask.ensures ∙ bit_at_xor word (2 ^ bit) i in
    record {
      here = xored bit ∙ ap (λ (n : ℕ). (bit_at word bit + n) % 2) (bit_at-pow_same bit) ∙ sum_of_bits (bit_at word bit) 1 (bit_at-lt word bit) (lit< tt);
      elsewhere = λ i _ other. xored i ∙ ap (λ (n : ℕ). (bit_at word i + n) % 2) (bit_at-pow_other bit i other) ∙ (let small = bit_at-lt word i in omega arith);
    }
