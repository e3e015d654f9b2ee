use Rattle.std.proofs.Common.{sym, ap, subst, ◌∙◌, arith}
use Rattle.rq_standard.specs.Configuration.{largest_block}
use Rattle.rq_cast.specs.Ids.{IsIdEnd}
use Rattle.rq_cast.specs.Parts.{part_head}
use Rattle.rq_cast.specs.Sent.{Sending, IsSendingOf, IsRoundOf}
use Rattle.rq_cast.proofs.sending.Sender.of_part.Goals as goal

pub returns-clause-sends : goal.returns-clause-sends
returns-clause-sends c names are =
    let part = c.args.part.now in
    let made = c.in_ok-object.ensures in
    let object = made.encodes in
    subst (IsSendingOf c.args.table.now part.is_last names part.object.now) (sym c.new-2.ensures) (record {
      few = omega (arith, c.requires.few, are.count);
      checked = object.checked;
      configuration = object.configuration;
      accepted = object.accepted;
      nonsingular = object.nonsingular;
      encoder = object.encoder;
      head = c.part_head-head.ensures.head names are (c.digests.ensures ∙ made.digests)
          ∙ ap (λ k. part_head part.is_last names k part.object.now) (sym made.configuration);
    })

pub returns-clause-configuration : goal.returns-clause-configuration
returns-clause-configuration c = ap (λ (s : Sending). s.encoded.configuration) c.new-2.ensures ∙ c.in_ok-object.ensures.configuration

pub returns-clause-keyed : goal.returns-clause-keyed
returns-clause-keyed c = ap (λ (s : Sending). s.key) c.new-2.ensures

pub returns-clause-series : goal.returns-clause-series
returns-clause-series c =
    let order = c.args.order.now in (
      c.new-begun.result,
      c.end-end.result,
      subst (λ k. IsIdEnd k order.repair c.end-end.result) (c.largest_block.ensures.value ∙ ap largest_block c.in_ok-object.ensures.configuration)
          c.end-end.ensures,
      c.new-begun.ensures,
      subst (IsRoundOf order.ids.round c.new-begun.result) (sym (ap (λ (s : Sending). s.series) c.new-2.ensures)) c.in_round-series.ensures,
    )
