use Rattle.rq_cast.proofs.SentOnce.{each_is_sent_once}
use Rattle.rq_cast.proofs.laws.each_is_sent_once.Goals as goal

pub returns : goal.returns
returns c = each_is_sent_once
