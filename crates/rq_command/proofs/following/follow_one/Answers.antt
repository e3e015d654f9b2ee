use Rattle.std.proofs.Common.{◌≡◌, ◌+◌, refl, sym, subst, arith}
use Rattle.rq_streams.specs.Counted.{failed_count}
use Rattle.rq_streams.specs.Ends.{failed_calls}
use Rattle.rq_cast.specs.Input.{counted_of}
use Rattle.rq_command.specs.Program.{FailsReceiving}
use Rattle.rq_devices.proofs.Counting.{failed_then}
use Rattle.rq_command.proofs.Followed.{patient_still, stopped_patient}
use Rattle.rq_command.proofs.following.follow_one.Goals as goal

pub returns-clause-failures : goal.returns-clause-failures
returns-clause-failures g c =
    let a = g.D.Devices.failed c.args.devices.now in
    let o = g.D.Devices.failed c.create_in.new.self in
    let s = g.D.Devices.failed c.count.new.self in
    let z = g.D.Devices.failed c.file-ended.new.devices in
    let last = c.file-ended.ensures.failures in
    let writes = failed_count c.run_receive-ended.new.writer in
    let all = writes + last.0 in
    let sum : failed_count (counted_of c.run_receive-ended.new.input) + all ≡ failed_calls c.run_receive-ended.result + last.0 =
    omega (arith, c.run_receive-ended.ensures.failures.counts, c.requires.none, c.new-writer.ensures.none) in (
      all,
      failed_then a o z 0 all all c.in-Ok.ensures.counts (failed_then o s z writes last.0 all c.count.ensures.counts last.1 refl) (omega arith),
      subst (FailsReceiving c.file-ended.result) (sym sum) last.2,
    )

pub returns-in-Err-clause-patient : goal.returns-in-Err-clause-patient
returns-in-Err-clause-patient g c = stopped_patient c.args.run.now.timeout c.in-Err.stop

pub returns-clause-patient : goal.returns-clause-patient
returns-clause-patient g c =
    patient_still c.args.run.now.timeout c.run_receive-ended.result c.file-ended.result c.run_receive-ended.ensures.patient c.file-ended.ensures.same
