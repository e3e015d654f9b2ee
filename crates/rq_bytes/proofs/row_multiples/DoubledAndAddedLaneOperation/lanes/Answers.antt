-- What the check leaves to show of a multiple by 2 and an addition on vectors.
use Rattle.std.proofs.Common.{ap, ◌∙◌}
use Rattle.std.specs.Int.Bits.{bit_xor}
use lib.Lanes.{zip2, chunk}
use Rattle.rq_standard.specs.Octets.{octet_mul}
use Rattle.rq_bytes.proofs.ZipUpto.{zip2-map_left}
use Rattle.rq_bytes.proofs.LaneFacts.{beside}
use Rattle.rq_bytes.proofs.row_multiples.DoubledAndAddedLaneOperation.lanes.Goals as goal

pub returns : goal.returns
returns c =
    let other = c.args.self.now.other.now in
    ap (λ xs. zip2 bit_xor xs (chunk c.args.place 32 other)) c.doubled_lanes.ensures
    ∙ zip2-map_left bit_xor (octet_mul 2) c.args.octets (chunk c.args.place 32 other)
    ∙ beside (λ x y. bit_xor (octet_mul 2 x) y) c.args.octets other c.args.place 32 c.requires.long c.requires.within
