use Rattle.rq_guard.proofs.SentLists.{sent_list_read}
use Rattle.rq_guard.proofs.laws.sent_lists_are_read.Goals as goal

pub returns : goal.returns
returns c = sent_list_read
