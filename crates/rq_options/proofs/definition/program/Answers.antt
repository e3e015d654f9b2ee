use Rattle.std.proofs.Common.{◌∙◌, ap, ap₂}
use Rattle.std.proofs.lemmas.Result.{IfOk-weaker}
use Rattle.clap.specs.Words.{App, with_subcommand}
use Rattle.rq_options.specs.Definition.{program_app}
use Rattle.rq_options.proofs.definition.program.Goals as goal

pub returns : goal.returns
unfolding program_app
returns c = IfOk-weaker c.subcommand-8.result _ _ (λ m h. h.shape c.in_ok-join.ensures.local
    ∙ ap₂ with_subcommand (c.in_ok-seven.ensures.shape c.in_ok-split.ensures.local
    ∙ ap₂ with_subcommand (c.in_ok-six.ensures.shape c.in_ok-repair.ensures.local
    ∙ ap₂ with_subcommand (c.in_ok-five.ensures.shape c.in_ok-check.ensures.local
    ∙ ap₂ with_subcommand (c.in_ok-four.ensures.shape c.in_ok-protect.ensures.local
    ∙ ap₂ with_subcommand (c.in_ok-three.ensures.shape c.in_ok-info.ensures.local
    ∙ ap₂ with_subcommand (c.in_ok-two.ensures.shape c.in_ok-receive.ensures.local
    ∙ ap₂ with_subcommand (c.in_ok-one.ensures.shape c.in_ok-send.ensures.local
    ∙ ap₂ with_subcommand c.in_ok-top.ensures (ap (λ (a : App). a.top) c.in_ok-send.ensures.app)) (ap (λ (a : App). a.top) c.in_ok-receive.ensures.app))
    (ap (λ (a : App). a.top) c.in_ok-info.ensures.app)) (ap (λ (a : App). a.top) c.in_ok-protect.ensures.app))
    (ap (λ (a : App). a.top) c.in_ok-check.ensures.app)) (ap (λ (a : App). a.top) c.in_ok-repair.ensures.app))
    (ap (λ (a : App). a.top) c.in_ok-split.ensures.app)) (ap (λ (a : App). a.top) c.in_ok-join.ensures.app)) c.subcommand-8.ensures
