use Rattle.std.proofs.Common.{ℕ, Err, refl, inr, ap, ◌∙◌}
use Rattle.std.specs.Prelude.{⊤}
use Rattle.std.proofs.lemmas.Result.{err_from_is_err_and}
use Rattle.rq_streams.specs.Ends.{failed_calls}
use Rattle.rq_devices.proofs.Counting.{once}
use Rattle.rq_devices.proofs.Putting.{put_away, put_there, not_put, fails_away, fails_there, fails_putting}
use Rattle.rq_devices.specs.Spots.{spot_of}
use Rattle.rq_devices.proofs.placing.put.Goals as goal

pub returns-then-not-is_whole-clause-placed : goal.returns-then-not-is_whole-clause-placed
returns-then-not-is_whole-clause-placed g c =
    put_away (spot_of c.args.place) c.args.is_whole (g.D.Writer.Write.contents c.args.writer) (g.D.Devices.placed c.args.devices.now)
    (g.D.Devices.placed c.finish.new.self) ⊤ c.args.ended c.finish.result c.if-not-is_whole.true c.finish.ensures.placed

pub returns-then-not-is_whole-clause-failures : goal.returns-then-not-is_whole-clause-failures
returns-then-not-is_whole-clause-failures g c = (
  failed_calls c.finish.result,
  c.finish.ensures.counts,
  fails_away c.args.is_whole c.args.ended (failed_calls c.finish.result) c.if-not-is_whole.true (once c.finish.result),
)

pub returns-in_err-finish-clause-same : goal.returns-in_err-finish-clause-same
returns-in_err-finish-clause-same g c =
    let p = err_from_is_err_and c.from_residual.result c.from_residual.ensures.1 in
    inr (c.if-not-is_whole.false, p.1 ∙ ap (λ s. Err s) (p.2 ∙ c.in_err-finish.ensures.fault))

pub returns-in_err-finish-clause-placed : goal.returns-in_err-finish-clause-placed
returns-in_err-finish-clause-placed g c =
    let p = err_from_is_err_and c.from_residual.result c.from_residual.ensures.1 in
    not_put (spot_of c.args.place) c.args.is_whole (g.D.Writer.Write.contents c.args.writer) (g.D.Devices.placed c.args.devices.now)
    (g.D.Devices.placed c.finish-2.new.self) ⊤ c.from_residual.result c.in_err-finish.field-0.0 c.if-not-is_whole.false (p.1 ∙ ap (λ s. Err s) p.2)
    c.in_err-finish.ensures.placed

pub returns-in_err-finish-clause-failures : goal.returns-in_err-finish-clause-failures
returns-in_err-finish-clause-failures g c =
    let p = err_from_is_err_and c.from_residual.result c.from_residual.ensures.1 in (
      failed_calls {X = ℕ} (Err c.in_err-finish.field-0.0),
      c.in_err-finish.ensures.counts,
      fails_putting c.args.is_whole c.from_residual.result c.in_err-finish.field-0.0 _ c.if-not-is_whole.false (p.1 ∙ ap (λ s. Err s) p.2)
          c.in_err-finish.ensures.fault refl,
    )

pub returns-clause-placed : goal.returns-clause-placed
returns-clause-placed g c =
    put_there (spot_of c.args.place) c.args.is_whole (g.D.Writer.Write.contents c.args.writer) (g.D.Devices.placed c.args.devices.now)
    (g.D.Devices.placed c.finish-2.new.self) ⊤ c.args.ended c.in_ok-finish.field-0 c.if-not-is_whole.false (c.requires c.if-not-is_whole.false)
    c.in_ok-finish.ensures.placed

pub returns-clause-failures : goal.returns-clause-failures
returns-clause-failures g c = (
  0,
  c.in_ok-finish.ensures.counts,
  fails_there c.args.is_whole c.args.ended 0 c.if-not-is_whole.false (c.requires c.if-not-is_whole.false) refl,
)
