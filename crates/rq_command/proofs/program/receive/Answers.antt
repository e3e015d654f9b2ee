use Rattle.std.proofs.Common.{◌≡◌, ◌+◌, ℕ, Err, ap, refl, ◌∙◌, arith}
use Rattle.rq_streams.specs.Counted.{failed_count}
use Rattle.rq_streams.specs.Ends.{failed_calls}
use Rattle.rq_cast.specs.Input.{counted_of}
use Rattle.rq_devices.specs.Failed.{Fails}
use Rattle.rq_command.proofs.Failing.{passed_on}
use Rattle.rq_devices.proofs.Counting.{failed_then}
use Rattle.rq_command.proofs.program.receive.Goals as goal

pub returns-in_err-reader-clause-failures : goal.returns-in_err-reader-clause-failures
returns-in_err-reader-clause-failures g c =
    passed_on c.from_residual-in_err-reader.result c.in_err-reader.field-0.0 (g.D.Devices.failed c.args.devices.now) (g.D.Devices.failed c.key_of.new.devices)
    (g.D.Devices.failed c.open_input.new.devices) c.from_residual-in_err-reader.ensures.1 c.in_ok-key.ensures.counts c.in_err-reader.ensures.counts

pub returns-in_err-create-clause-failures : goal.returns-in_err-create-clause-failures
returns-in_err-create-clause-failures g c =
    let k = g.D.Devices.failed c.key_of.new.devices in
    let o = g.D.Devices.failed c.open_input.new.devices in
    let w = g.D.Devices.failed c.create.new.self in
    let n = failed_calls {X = ℕ} (Err c.in_err-create.field-0.0) in
    passed_on c.from_residual-in_err-create.result c.in_err-create.field-0.0 (g.D.Devices.failed c.args.devices.now) k w c.from_residual-in_err-create.ensures.1
    c.in_ok-key.ensures.counts (failed_then k o w 0 n n c.in_ok-reader.ensures.counts c.in_err-create.ensures.counts (omega arith))

pub returns-clause-failures : goal.returns-clause-failures
returns-clause-failures g c =
    let a = g.D.Devices.failed c.args.devices.now in
    let k = g.D.Devices.failed c.key_of.new.devices in
    let o = g.D.Devices.failed c.open_input.new.devices in
    let w = g.D.Devices.failed c.create.new.self in
    let r = g.D.Devices.failed c.count.new.self in
    let s = g.D.Devices.failed c.count-2.new.self in
    let p = g.D.Devices.failed c.put_received-placed.new.devices in
    let z = g.D.Devices.failed c.forget.new.devices in
    let put = c.put_received-placed.ensures.failures in
    let last = c.forget.ensures.failures in
    let reads = failed_count c.into_counted.result in
    let writes = failed_count c.run_receive-ended.new.writer in
    let few = failed_calls c.run_receive-ended.result + put.0 in
    let all = few + last.0 in
    let end = writes + (put.0 + last.0) in
    let read : reads ≡ failed_count (counted_of c.run_receive-ended.new.input) = ap failed_count c.into_counted.ensures in
    let input : failed_count (counted_of c.new-input.result) ≡ 0 = ap failed_count c.new-input.ensures.reader ∙ c.new.ensures.none in
    let output : failed_count c.new-writer.result ≡ 0 = c.new-writer.ensures.none in
    let sum : reads + end ≡ all = omega (arith, read, input, output, c.run_receive-ended.ensures.failures.counts) in
    let behind : Fails r z end = failed_then r s z writes (put.0 + last.0) end c.count-2.ensures.counts (failed_then s p z put.0 last.0 (put.0 + last.0) put.1 last.1 refl) refl in (
      all,
      failed_then a k z 0 all all c.in_ok-key.ensures.counts (failed_then k o z 0 all all c.in_ok-reader.ensures.counts
          (failed_then o w z 0 all all c.in_ok-create.ensures.counts (failed_then w r z reads end all c.count.ensures.counts behind sum) (omega arith))
          (omega arith)) (omega arith),
      last.2 few put.2,
    )
