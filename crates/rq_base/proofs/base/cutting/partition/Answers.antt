use Rattle.rq_standard.proofs.PartSums.{parts-whole}
use Rattle.rq_base.proofs.base.cutting.partition.Goals as goal

pub returns-clause-whole : goal.returns-clause-whole
returns-clause-whole c = rw c.div_ceil-larger.ensures (parts-whole c.args.i c.args.j c.requires)
