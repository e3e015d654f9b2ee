use Rattle.std.proofs.Common.{◌∙◌, ap, ap₂}
use Rattle.std.proofs.lemmas.Result.{IfOk-weaker}
use Rattle.clap.specs.Words.{rule_of, with_rule}
use Rattle.rq_options.specs.Definition.{join_app, with_common, with_letter}
use Rattle.rq_options.proofs.definition.join.Goals as goal

pub returns-clause-app : goal.returns-clause-app
unfolding join_app
returns-clause-app c = IfOk-weaker c.added-2.result _ _ (λ m h. h
    ∙ ap₂ with_rule (c.in_ok-common.ensures.app ∙ ap with_common (c.in_ok-placed.ensures.app
    ∙ ap₂ with_rule c.in_ok-subcommand.ensures.app (ap rule_of c.short.ensures ∙ ap (with_letter 111) c.value-output.ensures.rule))) c.folder.ensures.rule)
    c.added-2.ensures.app

pub returns-clause-local : goal.returns-clause-local
returns-clause-local c = IfOk-weaker c.added-2.result _ _ (λ m h. h ∙ c.in_ok-common.ensures.local
    ∙ c.in_ok-placed.ensures.local ∙ c.in_ok-subcommand.ensures.local) c.added-2.ensures.local
