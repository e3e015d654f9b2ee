-- What the check leaves to show of `row_multiples::double_and_add`.
use Rattle.std.proofs.Common.{sym, ◌∙◌}
use Rattle.std.specs.Int.Bits.{bit_xor}
use Rattle.rq_standard.specs.Octets.{octet_mul}
use Rattle.rq_bytes.proofs.ZipUpto.{zip2-map_left}
use Rattle.rq_bytes.proofs.LaneFacts.{beside_whole}
use Rattle.rq_bytes.proofs.row_multiples.double_and_add.Goals as goal

pub returns : goal.returns
returns c =
    c.change_row.ensures
    ∙ beside_whole (λ x y. bit_xor (octet_mul 2 x) y) c.args.octets.now c.args.other.now c.requires
    ∙ sym (zip2-map_left bit_xor (octet_mul 2) c.args.octets.now c.args.other.now)
