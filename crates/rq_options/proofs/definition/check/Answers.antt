use Rattle.std.proofs.Common.{◌∙◌, ap, ap₂}
use Rattle.std.proofs.lemmas.Result.{IfOk-weaker}
use Rattle.clap.specs.Words.{with_rule}
use Rattle.rq_options.specs.Definition.{check_app, with_common}
use Rattle.rq_options.proofs.definition.check.Goals as goal

pub returns-clause-app : goal.returns-clause-app
unfolding check_app
returns-clause-app c = IfOk-weaker c.added-2.result _ _ (λ m h. h
    ∙ ap₂ with_rule (c.in_ok-added.ensures.app
    ∙ ap₂ with_rule (c.in_ok-common.ensures.app ∙ ap with_common c.in_ok-subcommand.ensures.app) c.guarded.ensures.rule) c.guard.ensures.rule) c.added-2.ensures.app

pub returns-clause-local : goal.returns-clause-local
returns-clause-local c = IfOk-weaker c.added-2.result _ _ (λ m h. h ∙ c.in_ok-added.ensures.local ∙ c.in_ok-common.ensures.local
    ∙ c.in_ok-subcommand.ensures.local) c.added-2.ensures.local
