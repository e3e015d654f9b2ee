use Rattle.std.proofs.Common.{◌∙◌, ap, ap₂}
use Rattle.std.proofs.lemmas.Result.{IfOk-weaker}
use Rattle.clap.specs.Words.{rule_of, with_rule}
use Rattle.rq_options.specs.Definition.{with_letter}
use Rattle.rq_options.proofs.definition.placed.Goals as goal

pub returns-clause-app : goal.returns-clause-app
returns-clause-app c = IfOk-weaker c.added-4.result _ _ (λ m h. h ∙ ap₂ with_rule (c.in_ok-three.ensures.app
    ∙ ap₂ with_rule (c.in_ok-two.ensures.app
    ∙ ap₂ with_rule (c.in_ok-one.ensures.app
    ∙ ap (with_rule _) (ap rule_of c.short.ensures ∙ ap (with_letter 111) c.value-output.ensures.rule)) c.flag-follow.ensures.rule) c.value-timeout.ensures.rule)
    c.value-state.ensures.rule) c.added-4.ensures.app

pub returns-clause-local : goal.returns-clause-local
returns-clause-local c =
    IfOk-weaker c.added-4.result _ _ (λ m h. h ∙ c.in_ok-three.ensures.local ∙ c.in_ok-two.ensures.local ∙ c.in_ok-one.ensures.local) c.added-4.ensures.local
