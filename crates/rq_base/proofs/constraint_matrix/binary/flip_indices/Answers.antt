use Rattle.rq_base.proofs.FlippedRows.{flips_all, flips_more, flips_none}
use Rattle.rq_base.proofs.constraint_matrix.binary.flip_indices.Goals as goal

pub loop-index-init : goal.loop-index-init
loop-index-init g c = flips_all _ _ _ c.requires.zeros c.requires.below

pub loop-index-preserved : goal.loop-index-preserved
loop-index-preserved g c =
    flips_more c.requires.row c.loop-index.invariant c.in-Some.ensures c.in_ok-flip.ensures.ok

pub returns-clause-filled : goal.returns-clause-filled
returns-clause-filled g c = flips_none c.loop-index.invariant c.in_default.ensures.0
