use Rattle.rq_cast.proofs.WindowLaw.{no_window_does_better}
use Rattle.rq_cast.proofs.laws.no_window_does_better.Goals as goal

pub returns : goal.returns
returns c = no_window_does_better
