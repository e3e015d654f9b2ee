use Rattle.std.proofs.Common.{◌∙◌, ap, ap₂, codes}
use Rattle.std.proofs.lemmas.Result.{IfOk-weaker}
use Rattle.clap.specs.Words.{rule_of, with_rule}
use Rattle.rq_options.specs.Definition.{with_default}
use Rattle.rq_options.proofs.definition.chosen.Goals as goal

pub returns-clause-app : goal.returns-clause-app
returns-clause-app c = IfOk-weaker c.added-3.result _ _ (λ m h. h ∙ ap₂ with_rule (c.in_ok-two.ensures.app
    ∙ ap₂ with_rule (c.in_ok-one.ensures.app ∙ ap (with_rule _) c.value-name.ensures.rule) c.several-not.ensures.rule)
    (ap rule_of c.default_value.ensures ∙ ap (with_default (codes "2")) c.value-window.ensures.rule)) c.added-3.ensures.app

pub returns-clause-local : goal.returns-clause-local
returns-clause-local c =
    IfOk-weaker c.added-3.result _ _ (λ m h. h ∙ c.in_ok-two.ensures.local ∙ c.in_ok-one.ensures.local) c.added-3.ensures.local
