use Rattle.rq_digests.specs.Lanes.{word}
use Rattle.rq_digests.proofs.Maj.{maj_by_differences}
use Rattle.rq_digests.proofs.block.maj.Goals as goal

pub returns : goal.returns
returns c = λ l lt.
    rw (c.xor-3.ensures l lt, c.and.ensures l lt, c.xor.ensures l lt, c.xor-2.ensures l lt)
    (maj_by_differences (word l c.args.x) (word l c.args.y) (word l c.args.z))
