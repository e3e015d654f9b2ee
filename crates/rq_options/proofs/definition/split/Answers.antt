use Rattle.std.proofs.Common.{◌∙◌, ap, ap₂}
use Rattle.std.proofs.lemmas.Result.{IfOk-weaker}
use Rattle.clap.specs.Words.{with_rule}
use Rattle.rq_options.specs.Definition.{split_app, with_common, with_shards}
use Rattle.rq_options.proofs.definition.split.Goals as goal

pub returns-clause-app : goal.returns-clause-app
unfolding split_app
returns-clause-app c = IfOk-weaker c.added-2.result _ _ (λ m h. h
    ∙ ap₂ with_rule (c.in_ok-filed.ensures.app
    ∙ ap₂ with_rule (c.in_ok-common.ensures.app ∙ ap with_common (c.in_ok-sharded.ensures.app ∙ ap with_shards c.in_ok-subcommand.ensures.app))
    c.whole.ensures.rule) c.folder.ensures.rule) c.added-2.ensures.app

pub returns-clause-local : goal.returns-clause-local
returns-clause-local c = IfOk-weaker c.added-2.result _ _ (λ m h. h ∙ c.in_ok-filed.ensures.local ∙ c.in_ok-common.ensures.local
    ∙ c.in_ok-sharded.ensures.local ∙ c.in_ok-subcommand.ensures.local) c.added-2.ensures.local
