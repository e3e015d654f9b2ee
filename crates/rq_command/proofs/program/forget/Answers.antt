use Rattle.std.proofs.Common.{Err, ap, ◌∙◌}
use Rattle.std.proofs.lemmas.Result.{err_from_is_err_and}
use Rattle.rq_command.proofs.Failing.{fails_behind, fails_no_more}
use Rattle.rq_devices.proofs.Counting.{none_fails}
use Rattle.rq_command.proofs.program.forget.Goals as goal

pub returns-in_default-clause-failures : goal.returns-in_default-clause-failures
returns-in_default-clause-failures g c =
    let a = g.D.Devices.failed c.args.devices.now in
    fails_no_more c.args.put a a (none_fails a)

pub returns-then-not-is_whole-clause-failures : goal.returns-then-not-is_whole-clause-failures
returns-then-not-is_whole-clause-failures g c =
    let a = g.D.Devices.failed c.args.devices.now in
    fails_no_more c.args.put a a (none_fails a)

pub returns-in_err-forget-clause-failures : goal.returns-in_err-forget-clause-failures
returns-in_err-forget-clause-failures g c =
    let p = err_from_is_err_and c.from_residual.result c.from_residual.ensures.1 in
    fails_behind c.args.put c.from_residual.result c.in_err-forget.field-0.0 (g.D.Devices.failed c.args.devices.now) (g.D.Devices.failed c.forget.new.self)
    c.in_err-forget.ensures.fault (p.1 ∙ ap (λ s. Err s) p.2) c.in_err-forget.ensures.counts

pub returns-clause-failures : goal.returns-clause-failures
returns-clause-failures g c =
    fails_no_more c.args.put (g.D.Devices.failed c.args.devices.now) (g.D.Devices.failed c.forget.new.self) c.in_ok-forget.ensures.counts
