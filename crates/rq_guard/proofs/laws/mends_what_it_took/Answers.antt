use Rattle.rq_guard.proofs.Mended.{mends}
use Rattle.rq_guard.proofs.laws.mends_what_it_took.Goals as goal

pub returns : goal.returns
returns c = mends
