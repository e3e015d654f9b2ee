use Rattle.rq_guard.proofs.Mended.{none_ready}
use Rattle.rq_guard.proofs.mending.Mending.new.Goals as goal

pub returns-clause-mended : goal.returns-clause-mended
returns-clause-mended c = λ table stream.
    let taken = c.in_ok-window.ensures.taken table stream in
    record { taken = taken; none_left = none_ready table stream c.in_ok-window.window taken }
