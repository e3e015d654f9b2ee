use Rattle.rq_standard.proofs.ObjectAnswers.{difference_tells_answer}
use Rattle.rq_standard.proofs.OtherObjects.{makes_others_fit}
use Rattle.raptorq.proofs.laws.differences.Goals as goal

pub returns : goal.returns
returns c = record { none = difference_tells_answer; fit = makes_others_fit }
