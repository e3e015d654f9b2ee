-- What the check leaves to show of `range_multiples::add_piece_to_all`.
use Rattle.std.proofs.Common.{◌<◌, w8, get_or, sym}
use Rattle.std.proofs.lemmas.List.{get_or_default}
use Rattle.std.proofs.lemmas.Simd.{Each1-get_or, below_from_Fits}
use Rattle.rq_bytes.specs.RangeSums.{by_one}
use Rattle.rq_bytes.proofs.Multiples.{times_one}
use Rattle.rq_bytes.proofs.Spreads.{next_added}
use Rattle.rq_bytes.proofs.range_multiples.add_piece_to_all.Goals as goal

pub loop-target-preserved : goal.loop-target-preserved
loop-target-preserved g c =
    let targets = c.args.targets.now in
    let i = c.loop-target.target-index in
    let target = get_or targets i 0 in
    let piece = c.args.piece in
    next_added by_one c.args.bytes.now piece c.args.at targets i target c.loop-target.bytes _ piece
    c.loop-target-test.true (get_or_default targets i 0 target c.loop-target-test.true) c.loop-target.invariant
    (sym (times_one piece (λ k l. Each1-get_or (λ x. x < 256) piece k 0 l (below_from_Fits w8 piece c.fits-piece.1)))) c.add_piece.ensures
