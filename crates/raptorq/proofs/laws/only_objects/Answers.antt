use Rattle.rq_standard.proofs.BlockRows.{answerable_only}
use Rattle.raptorq.proofs.laws.only_objects.Goals as goal

pub returns : goal.returns
returns c = answerable_only
