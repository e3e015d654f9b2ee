-- What the check leaves to show of `octets::add_bit_multiples`.
use Rattle.std.proofs.Common.{◌+◌, length, ap, sym, ◌∙◌, arith}
use Rattle.rq_standard.specs.Rows.{row_sum, row_multiple}
use Rattle.rq_bytes.specs.BinaryOctetVec.{packed_bit}
use Rattle.rq_bytes.proofs.BitLanes.{bits_added}
use Rattle.rq_bytes.proofs.LaneFacts.{ranges_alike}
use Rattle.rq_bytes.proofs.octets.add_bit_multiples.Goals as goal

pub returns : goal.returns
returns c =
    let octets = c.args.octets.now in
    let bit = packed_bit c.args.bits.now in
    c.change_row.ensures
    ∙ bits_added c.args.scalar (λ k. bit (0 + k)) octets
    ∙ ap (λ ys. row_sum octets (row_multiple c.args.scalar ys)) (sym (ranges_alike bit (λ k. bit (0 + k)) 0 (length octets) (λ i lt. ap bit (omega arith))))
