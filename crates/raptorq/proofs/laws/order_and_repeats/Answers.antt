use Rattle.rq_standard.proofs.MorePackets.{same_answerable, same_answers}
use Rattle.raptorq.proofs.laws.order_and_repeats.Goals as goal

pub returns-clause-objects : goal.returns-clause-objects
returns-clause-objects c = same_answerable

pub returns-clause-answers : goal.returns-clause-answers
returns-clause-answers c = same_answers
