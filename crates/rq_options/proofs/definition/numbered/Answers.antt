use Rattle.std.proofs.Common.{◌∙◌, ap, ap₂, codes}
use Rattle.std.proofs.lemmas.Result.{IfOk-weaker}
use Rattle.clap.specs.Words.{rule_of, with_rule}
use Rattle.rq_options.specs.Definition.{with_default}
use Rattle.rq_options.proofs.definition.numbered.Goals as goal

pub returns-clause-app : goal.returns-clause-app
returns-clause-app c = IfOk-weaker c.added-4.result _ _ (λ m h. h ∙ ap₂ with_rule (c.in_ok-three.ensures.app
    ∙ ap₂ with_rule (c.in_ok-two.ensures.app
    ∙ ap₂ with_rule (c.in_ok-one.ensures.app ∙ ap (with_rule _) c.value-rate.ensures.rule) c.value-share.ensures.rule)
    (ap rule_of c.default_value.ensures ∙ ap (with_default (codes "0")) c.value-from.ensures.rule)) c.value-rounds.ensures.rule) c.added-4.ensures.app

pub returns-clause-local : goal.returns-clause-local
returns-clause-local c = IfOk-weaker c.added-4.result _ _ (λ m h. h ∙ c.in_ok-three.ensures.local ∙ c.in_ok-two.ensures.local ∙ c.in_ok-one.ensures.local)
    c.added-4.ensures.local
