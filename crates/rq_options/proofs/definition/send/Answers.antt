use Rattle.std.proofs.Common.{◌∙◌, ap, ap₂}
use Rattle.std.proofs.lemmas.Result.{IfOk-weaker}
use Rattle.clap.specs.Words.{with_rule}
use Rattle.rq_options.specs.Definition.{send_app, with_common, with_ids, with_repair}
use Rattle.rq_options.proofs.definition.send.Goals as goal

pub returns-clause-app : goal.returns-clause-app
unfolding send_app
returns-clause-app c = IfOk-weaker c.added.result _ _ (λ m h. h
    ∙ ap₂ with_rule (c.in_ok-common.ensures.app ∙ ap with_common (c.in_ok-numbered.ensures.app ∙ ap with_ids (c.in_ok-repaired.ensures.app
    ∙ ap with_repair c.in_ok-subcommand.ensures.app))) c.file.ensures.rule) c.added.ensures.app

pub returns-clause-local : goal.returns-clause-local
returns-clause-local c = IfOk-weaker c.added.result _ _ (λ m h. h ∙ c.in_ok-common.ensures.local
    ∙ c.in_ok-numbered.ensures.local ∙ c.in_ok-repaired.ensures.local ∙ c.in_ok-subcommand.ensures.local) c.added.ensures.local
