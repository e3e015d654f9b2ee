use Rattle.rq_cast.proofs.SentReceived.{sent_cells_are_found}
use Rattle.rq_cast.proofs.laws.sent_cells_are_found.Goals as goal

pub returns : goal.returns
returns c = sent_cells_are_found
