use Rattle.rq_standard.proofs.OtherObjects.{result_is_object}
use Rattle.raptorq.proofs.laws.results.Goals as goal

pub returns : goal.returns
returns c = result_is_object
