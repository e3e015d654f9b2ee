use Rattle.rq_cast.proofs.SentReceived.{sent_are_one_senders}
use Rattle.rq_cast.proofs.laws.sent_are_one_senders.Goals as goal

pub returns : goal.returns
returns c = sent_are_one_senders
