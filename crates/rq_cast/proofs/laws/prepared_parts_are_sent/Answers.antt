use Rattle.rq_cast.proofs.SentReceived.{prepared_parts_are_sent}
use Rattle.rq_cast.proofs.laws.prepared_parts_are_sent.Goals as goal

pub returns : goal.returns
returns c = prepared_parts_are_sent
