-- What the check leaves to show of `bit_row::part_of`.
use Rattle.std.proofs.Common.{◌≡◌, ℕ, ◌+◌, ◌-◌, ◌<◌, List, get_or, ap, ◌∙◌, arith}
use Rattle.rq_bytes.specs.BinaryOctetVec.{packed_bit, padding_of}
use Rattle.rq_bytes.proofs.PackedRows.{get_or-packed_bits}
use Rattle.rq_matrix.proofs.bit_row.part_of.Goals as goal

pub returns : goal.returns
returns c =
    let len = c.args.end - c.args.start in
    let part = c.loop-k.part in
    record {
      len = c.new.ensures.len;
      octet = λ k from below.
          let inside : k - c.args.start < len = omega arith in
          let place : c.args.start + (k - c.args.start) ≡ k = omega arith in
          ap (λ (l : List ℕ). get_or l (k - c.args.start) 0) c.new.ensures.bits
          ∙ get_or-packed_bits c.into_words.result.items len (k - c.args.start) inside
          ∙ ap (λ (l : List ℕ). packed_bit l (padding_of len + (k - c.args.start))) c.into_words.ensures
          ∙ c.loop-k.invariant.copied (k - c.args.start) (omega arith)
          ∙ ap (packed_bit c.args.row.now) place;
    }
