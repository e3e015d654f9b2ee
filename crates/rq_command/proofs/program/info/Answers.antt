use Rattle.std.proofs.Common.{ℕ, Err, map, option_map, ap, subst, ◌∙◌, arith}
use Rattle.rq_streams.specs.Ends.{failed_calls}
use Rattle.rq_devices.specs.Keyed.{IsKeyRead, key_file}
use Rattle.rq_devices.specs.Told.{told}
use Rattle.rq_command.proofs.Doing.{lists}
use Rattle.rq_command.proofs.Failing.{passed_on}
use Rattle.rq_devices.proofs.Counting.{failed_then}
use Rattle.rq_command.proofs.program.info.Goals as goal

pub returns-in_err-reader-clause-failures : goal.returns-in_err-reader-clause-failures
returns-in_err-reader-clause-failures g c =
    passed_on c.from_residual-in_err-reader.result c.in_err-reader.field-0.0 (g.D.Devices.failed c.args.devices.now) (g.D.Devices.failed c.key_of.new.devices)
    (g.D.Devices.failed c.open.new.self) c.from_residual-in_err-reader.ensures.1 c.in_ok-key.ensures.counts c.in_err-reader.ensures.counts

pub returns-in_err-bytes-clause-failures : goal.returns-in_err-bytes-clause-failures
returns-in_err-bytes-clause-failures g c =
    let k = g.D.Devices.failed c.key_of.new.devices in
    let o = g.D.Devices.failed c.open.new.self in
    let z = g.D.Devices.failed c.read_whole.new.devices in
    let n = failed_calls {X = ℕ} (Err c.in_err-bytes.field-0.0) in
    passed_on c.from_residual-in_err-bytes.result c.in_err-bytes.field-0.0 (g.D.Devices.failed c.args.devices.now) k z c.from_residual-in_err-bytes.ensures.1
    c.in_ok-key.ensures.counts (failed_then k o z 0 n n c.in_ok-reader.ensures.counts c.in_err-bytes.ensures.counts (omega arith))

pub returns-clause-does : goal.returns-clause-does
returns-clause-does g c =
    let stands = g.D.Devices.stands c.args.devices.now in
    let remaining = g.D.Reader.Read.remaining in
    let file = key_file stands (option_map (λ s. s.now) c.args.job.key) in
    let files = map (λ s. s.now) c.args.job.files.items in
    let there = ap remaining c.new.ensures ∙ c.in_ok-reader.ensures.bytes ∙ ap (λ there. there files) c.key_of.ensures.stays in (
      (
        c.read_whole.ensures.kept ∙ c.open.ensures.kept ∙ c.key_of.ensures.kept,
        lists file (stands files) (remaining (told c.new.result)) c.in-Some.key c.in_ok-table.table c.in_ok-bytes.bytes.items
            c.in_ok-standings.standings.items (subst (IsKeyRead file) c.in-Some.is c.in_ok-key.ensures.key) c.in_ok-table.ensures there c.in_ok-bytes.ensures.bytes
            (rw c.as_slice-bytes.ensures.value at c.in_ok-standings.ensures.survey),
      ),
      c.read_whole.ensures.filed ∙ c.open.ensures.filed ∙ c.key_of.ensures.filed,
      c.read_whole.ensures.earlier ∙ c.open.ensures.earlier ∙ c.key_of.ensures.earlier,
      c.read_whole.ensures.stays ∙ c.open.ensures.stays ∙ c.key_of.ensures.stays,
    )
