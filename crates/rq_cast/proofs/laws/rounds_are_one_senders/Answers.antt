use Rattle.rq_cast.proofs.RoundsReceived.{rounds_are_one_senders}
use Rattle.rq_cast.proofs.laws.rounds_are_one_senders.Goals as goal

pub returns : goal.returns
returns c = rounds_are_one_senders
