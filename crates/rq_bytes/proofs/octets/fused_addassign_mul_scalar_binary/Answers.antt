-- What the check leaves to show of `octets::fused_addassign_mul_scalar_binary`.
use Rattle.std.proofs.Common.{ℕ, ◌+◌, List, length, map, sym, ap, ◌∙◌, arith}
use Rattle.std.specs.List.{range_with_len}
use Rattle.rq_standard.specs.Rows.{row_sum, row_multiple}
use Rattle.rq_bytes.specs.BinaryOctetVec.{packed_bit}
use Rattle.rq_bytes.proofs.BitLanes.{len_is, padding_is, row_is, bits_added}
use Rattle.rq_bytes.proofs.octets.fused_addassign_mul_scalar_binary.Goals as goal

pub change_row-requires : goal.change_row-requires
change_row-requires c =
    let words = c.other.inside.elements.items in
    let long = len_is words c.args.other.now c.other.inside.length c.padding_bits-from.result (length c.args.octets.now) c.other.view_is c.requires c.padding_bits-from.ensures in
    let before = padding_is words c.args.other.now c.other.inside.length c.padding_bits-from.result (length c.args.octets.now) c.other.view_is c.requires c.padding_bits-from.ensures in
    omega (arith, c.other.invariant, c.as_slice-bits.ensures.len, long, before)

pub returns-clause-sum : goal.returns-clause-sum
returns-clause-sum c =
    let octets = c.args.octets.now in
    let other = c.args.other.now in
    let scalar = c.byte-scalar.result in
    let first = c.padding_bits-from.result in
    c.change_row.ensures
    ∙ bits_added scalar (λ k. packed_bit c.as_slice-bits.result.now (first + k)) octets
    ∙ ap (λ (ws : List ℕ). row_sum octets (row_multiple scalar (map (λ k. packed_bit ws (first + k)) (range_with_len 0 (length octets))))) c.as_slice-bits.ensures.value
    ∙ ap (λ ys. row_sum octets (row_multiple scalar ys)) (sym (row_is c.other.inside.elements.items other c.other.inside.length first (length octets) c.other.view_is c.requires c.padding_bits-from.ensures))
    ∙ ap (λ (a : ℕ). row_sum octets (row_multiple a other)) c.byte-scalar.ensures
