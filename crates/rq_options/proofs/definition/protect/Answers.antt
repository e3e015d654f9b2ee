use Rattle.std.proofs.Common.{◌∙◌, ap, ap₂}
use Rattle.std.proofs.lemmas.Result.{IfOk-weaker}
use Rattle.clap.specs.Words.{with_rule}
use Rattle.rq_options.specs.Definition.{protect_app, with_common, with_guard}
use Rattle.rq_options.proofs.definition.protect.Goals as goal

pub returns-clause-app : goal.returns-clause-app
unfolding protect_app
returns-clause-app c = IfOk-weaker c.added.result _ _ (λ m h. h
    ∙ ap₂ with_rule (c.in_ok-common.ensures.app ∙ ap with_common (c.in_ok-guarding.ensures.app ∙ ap with_guard c.in_ok-subcommand.ensures.app)) c.guarded.ensures.rule)
    c.added.ensures.app

pub returns-clause-local : goal.returns-clause-local
returns-clause-local c = IfOk-weaker c.added.result _ _ (λ m h. h ∙ c.in_ok-common.ensures.local
    ∙ c.in_ok-guarding.ensures.local ∙ c.in_ok-subcommand.ensures.local) c.added.ensures.local
