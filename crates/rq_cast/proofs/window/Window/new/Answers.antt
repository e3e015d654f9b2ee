use Rattle.std.proofs.Common.{refl}
use Rattle.rq_cast.proofs.WindowSteps.{taken_none}
use Rattle.rq_cast.proofs.window.Window.new.Goals as goal

pub returns-clause-taken : goal.returns-clause-taken
returns-clause-taken c = λ table stream. taken_none table stream c.args.width _ c.in_ok-closed.ensures c.new.ensures c.new-2.ensures.items refl refl refl refl
