-- What the check leaves to show of multiples of packed bits on vectors.
use Rattle.std.proofs.Common.{◌≡◌, ℕ, ◌+◌, ap, sym, ◌∙◌, arith}
use Rattle.std.specs.Int.{bit_at}
use Rattle.std.specs.Int.Bits.{bit_xor}
use Rattle.std.specs.List.{range_with_len}
use lib.Lanes.{zip2}
use Rattle.rq_standard.specs.Octets.{octet_mul}
use Rattle.rq_bytes.specs.BinaryOctetVec.{packed_bit}
use Rattle.rq_bytes.proofs.LaneFacts.{ranges_alike}
use Rattle.rq_bytes.proofs.ZipUpto.{zip2-map_right}
use Rattle.rq_bytes.proofs.octets.BitMultiplesLaneOperation.lanes.Goals as goal

pub returns : goal.returns
returns c =
    let self = c.args.self.now in
    let place = c.args.place in
    let read = c.bits_from in
    let multiple : ℕ → ℕ = λ k. octet_mul self.scalar (packed_bit self.bits.now (self.from + k)) in
    ap (zip2 bit_xor c.args.octets) (c.bit_products.ensures ∙ ranges_alike (λ i. octet_mul self.scalar (bit_at read.result i)) multiple place 32 (λ i lt.
    let e : self.from + place + i ≡ self.from + (place + i) = omega arith in
    ap (octet_mul self.scalar) (read.ensures i lt ∙ ap (packed_bit self.bits.now) e)))
    ∙ zip2-map_right bit_xor multiple c.args.octets (range_with_len place 32)
    ∙ ap (λ n. zip2 (λ x k. bit_xor x (multiple k)) c.args.octets (range_with_len place n)) (sym c.requires.long)
