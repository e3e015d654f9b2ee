use Rattle.std.proofs.Common.{map, option_map, ap, subst, ◌∙◌, arith}
use Rattle.rq_cast.specs.Input.{unread}
use Rattle.rq_devices.specs.Keyed.{IsKeyRead, key_file}
use Rattle.rq_devices.specs.Spots.{InFolder}
use Rattle.rq_command.proofs.Failing.{passed_on}
use Rattle.rq_devices.proofs.Counting.{failed_then}
use Rattle.rq_command.proofs.Followed.{follows}
use Rattle.rq_command.proofs.program.follow.Goals as goal

pub returns-in_err-reader-clause-failures : goal.returns-in_err-reader-clause-failures
returns-in_err-reader-clause-failures g c =
    passed_on c.from_residual-in_err-reader.result c.in_err-reader.field-0.0 (g.D.Devices.failed c.args.devices.now) (g.D.Devices.failed c.key_of.new.devices)
    (g.D.Devices.failed c.open.new.self) c.from_residual-in_err-reader.ensures.1 c.in_ok-key.ensures.counts c.in_err-reader.ensures.counts

pub returns-clause-does : goal.returns-clause-does
returns-clause-does g c =
    let stands = g.D.Devices.stands c.args.devices.now in
    let remaining = g.D.Reader.Read.remaining in
    let file = key_file stands (option_map (λ s. s.now) c.args.job.key) in
    let files = map (λ s. s.now) c.args.job.files.items in
    let read = c.new-input.ensures.unread remaining ∙ ap remaining c.new.ensures.inner ∙ c.in_ok-reader.ensures.bytes
    ∙ ap (λ there. there files) c.key_of.ensures.stays in (
      follows file (map (λ v. v.items) c.args.job.passed.items) c.args.job.window c.args.job.timeout c.follow_all-last.result.0 c.follow_all-last.result.1 c.follow_all-last.result.2
          c.in-Some.key c.in_ok-table.table (stands files) (unread remaining c.new-input.result) (g.D.Devices.blank (InFolder c.args.job.folder.now)) (g.D.Devices.filed c.args.devices.now)
          (g.D.Devices.filed c.open.new.self) (g.D.Devices.filed c.follow_all-last.new.devices) (subst (IsKeyRead file) c.in-Some.is c.in_ok-key.ensures.key)
          c.in_ok-table.ensures read (c.open.ensures.filed ∙ c.key_of.ensures.filed) c.follow_all-last.ensures.all,
      c.follow_all-last.ensures.kept ∙ c.open.ensures.kept ∙ c.key_of.ensures.kept,
      c.follow_all-last.ensures.earlier ∙ c.open.ensures.earlier ∙ c.key_of.ensures.earlier,
    )

pub returns-clause-failures : goal.returns-clause-failures
returns-clause-failures g c =
    let a = g.D.Devices.failed c.args.devices.now in
    let k = g.D.Devices.failed c.key_of.new.devices in
    let o = g.D.Devices.failed c.open.new.self in
    let z = g.D.Devices.failed c.follow_all-last.new.devices in
    let last = c.follow_all-last.ensures.failures in (
      last.0,
      failed_then a k z 0 last.0 last.0 c.in_ok-key.ensures.counts (failed_then k o z 0 last.0 last.0 c.in_ok-reader.ensures.counts last.1 (omega arith)) (omega arith),
      last.2,
    )
