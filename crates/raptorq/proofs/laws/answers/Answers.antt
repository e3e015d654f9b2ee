use Rattle.rq_standard.proofs.OneAnswer.{one_answer}
use Rattle.raptorq.proofs.laws.answers.Goals as goal

pub returns : goal.returns
returns c = one_answer
