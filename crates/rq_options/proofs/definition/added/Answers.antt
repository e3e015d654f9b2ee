use Rattle.std.proofs.lemmas.Result.{IfOk-weaker}
use Rattle.rq_options.proofs.Local.{adds_local}
use Rattle.rq_options.proofs.definition.added.Goals as goal

pub returns-clause-app : goal.returns-clause-app
returns-clause-app c = IfOk-weaker c.arg.result _ _ (λ m h. h.shape c.requires) c.arg.ensures

pub returns-clause-local : goal.returns-clause-local
returns-clause-local c = IfOk-weaker c.arg.result _ _ (λ m h. adds_local _ _ m h c.requires) c.arg.ensures
