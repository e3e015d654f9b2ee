-- What the check leaves to show of the addition of a multiple on vectors.
use Rattle.std.proofs.Common.{ap, ◌∙◌, arith}
use Rattle.std.specs.Int.Bits.{bit_xor}
use Rattle.std.proofs.lemmas.Simd.{length-chunk}
use lib.Lanes.{zip2, chunk}
use Rattle.rq_standard.specs.Octets.{octet_mul}
use Rattle.rq_bytes.specs.LaneMultiples.{octet_of}
use Rattle.rq_bytes.proofs.ZipUpto.{zip2-map_right}
use Rattle.rq_bytes.proofs.LaneFacts.{alone, beside}
use Rattle.rq_bytes.proofs.lane_multiples.AddMultipleLaneOperation.lanes.Goals as goal

pub lanes-multiple-requires-clause-long : goal.lanes-multiple-requires-clause-long
lanes-multiple-requires-clause-long c = length-chunk c.args.place 32 c.args.self.now.other.now (omega (arith, c.requires.within))

pub returns : goal.returns
returns c =
    let other = c.args.self.now.other.now in
    let times = octet_mul (octet_of c.args.self.now.multiplier) in
    let read = chunk c.args.place 32 other in
    ap (zip2 bit_xor c.args.octets) (c.lanes-multiple.ensures ∙ alone times read c.args.place)
    ∙ zip2-map_right bit_xor times c.args.octets read
    ∙ beside (λ x y. bit_xor x (times y)) c.args.octets other c.args.place 32 c.requires.long c.requires.within
