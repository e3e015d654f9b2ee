use Rattle.std.proofs.Common.{◌∙◌, ap, ap₂, codes}
use Rattle.std.proofs.lemmas.Result.{IfOk-weaker}
use Rattle.clap.specs.Words.{rule_of, with_rule}
use Rattle.rq_options.specs.Definition.{with_default, with_letter}
use Rattle.rq_options.proofs.definition.sharded.Goals as goal

pub returns-clause-app : goal.returns-clause-app
returns-clause-app c = IfOk-weaker c.added-4.result _ _ (λ m h. h ∙ ap₂ with_rule (c.in_ok-three.ensures.app
    ∙ ap₂ with_rule (c.in_ok-two.ensures.app
    ∙ ap₂ with_rule (c.in_ok-one.ensures.app ∙ ap (with_rule _) (ap rule_of c.default_value.ensures ∙ ap (with_default (codes "16")) c.value-need.ensures.rule))
    (ap rule_of c.default_value-2.ensures ∙ ap (with_default (codes "20")) c.value-of.ensures.rule))
    (ap rule_of c.default_value-3.ensures ∙ ap (with_default (codes "16M")) c.value-part.ensures.rule))
    (ap rule_of c.default_value-4.ensures ∙ ap (with_default (codes "4096")) (ap rule_of c.short.ensures ∙ ap (with_letter 99) c.value-cell.ensures.rule)))
    c.added-4.ensures.app

pub returns-clause-local : goal.returns-clause-local
returns-clause-local c = IfOk-weaker c.added-4.result _ _ (λ m h. h ∙ c.in_ok-three.ensures.local ∙ c.in_ok-two.ensures.local ∙ c.in_ok-one.ensures.local)
    c.added-4.ensures.local
