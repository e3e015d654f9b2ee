-- What the check leaves to show of `range_multiples::add_multiples_of_piece`.
use Rattle.std.proofs.Common.{◌+◌, ap, ◌∙◌}
use Rattle.std.proofs.lemmas.Simd.{length-chunk}
use Rattle.rq_standard.specs.Rows.{row_multiple}
use Rattle.rq_bytes.specs.Ranges.{range_of}
use Rattle.rq_bytes.specs.Targets.{start_and_octet}
use Rattle.rq_bytes.proofs.Spreads.{next_added}
use Rattle.rq_bytes.proofs.range_multiples.add_multiples_of_piece.Goals as goal

pub new-halves-requires : goal.new-halves-requires
new-halves-requires c = length-chunk (c.args.src + c.args.at) 32 c.args.bytes.now c.requires.src

pub loop-target-preserved : goal.loop-target-preserved
loop-target-preserved c =
    let t = c.target-item.result in
    let row = range_of c.args.bytes.now (c.args.src + c.args.at) 32 in
    next_added start_and_octet c.args.bytes.now row c.args.at c.args.targets.now c.loop-target.target-index t c.loop-target.bytes _ c.products.result
    c.loop-target-test.true c.target-item.is c.loop-target.invariant
    (c.products.ensures.products ∙ ap (row_multiple t.factor.octet) c.new-halves.ensures) c.add_piece.ensures
