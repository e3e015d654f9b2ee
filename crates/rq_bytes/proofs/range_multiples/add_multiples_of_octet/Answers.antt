-- What the check leaves to show of `range_multiples::add_multiples_of_octet`.
use Rattle.std.proofs.Common.{◌+◌, [], ◌∷◌, ◌≡◌, refl}
use Rattle.std.proofs.Math.Seq.{drop-cons}
use Rattle.rq_standard.specs.Rows.{row_multiple}
use Rattle.rq_bytes.specs.Ranges.{range_of}
use Rattle.rq_bytes.specs.Targets.{start_and_octet}
use Rattle.rq_bytes.proofs.Spreads.{next_added}
use Rattle.rq_bytes.proofs.range_multiples.add_multiples_of_octet.Goals as goal

pub loop-target-preserved : goal.loop-target-preserved
loop-target-preserved c =
    let t = c.target-item.result in
    let bytes = c.args.bytes.now in
    let src = c.args.src + c.args.at in
    let row = range_of bytes src 1 in
    let part : c.product.result ∷ [] ≡ row_multiple t.factor.octet row = rw (c.product.ensures, drop-cons bytes src 0 c.requires.src) refl in
    next_added start_and_octet bytes row c.args.at c.args.targets.now c.loop-target.target-index t c.loop-target.bytes _ (c.product.result ∷ [])
    c.loop-target-test.true c.target-item.is c.loop-target.invariant part c.add_piece.ensures
