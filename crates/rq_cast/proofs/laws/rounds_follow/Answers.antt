use Rattle.rq_cast.proofs.RoundLaw.{rounds_follow}
use Rattle.rq_cast.proofs.laws.rounds_follow.Goals as goal

pub returns : goal.returns
returns c = rounds_follow
