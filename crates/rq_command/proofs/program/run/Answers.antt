use Rattle.std.proofs.Common.{map}
use Rattle.rq_words.specs.declared.jobs.Job.TheVariants.{Send, Receive, Follow, Info, Protect, Check, Repair, Split, Join}
use Rattle.rq_command.specs.Outside.{outside}
use Rattle.rq_command.proofs.Doing.{done}
use Rattle.rq_command.proofs.program.run.Goals as goal

pub returns-in-Ok-Send-clause-does : goal.returns-in-Ok-Send-clause-does
returns-in-Ok-Send-clause-does g c =
    done (map g.S.AsStr.text c.args.words.now) (outside (g.D.Devices.terminal c.args.devices.now) (g.T.Pace.calls c.args.teller.now) (g.T.Pace.calls c.send.new.teller)
    (g.D.Devices.failed c.args.devices.now) (g.D.Devices.failed c.send.new.devices) (g.D.Devices.earlier c.args.devices.now) (g.D.Devices.earlier c.send.new.devices) (g.D.Devices.stands c.send.new.devices)) (g.D.Devices.stands c.args.devices.now)
    g.D.Devices.blank c.send.result c.end_of.result
    (g.D.Devices.placed c.args.devices.now) (g.D.Devices.placed c.send.new.devices) (g.D.Devices.filed c.args.devices.now) (g.D.Devices.filed c.send.new.devices)
    (Send c.in-Ok-Send.job) c.end_of.ensures
    (rw c.in-Ok-Send.field-0-is at c.in-Ok-Send.ensures.job) (c.send.ensures.terminal, c.send.ensures.does, c.send.ensures.filed, c.send.ensures.earlier)

pub returns-in-Ok-Receive-clause-does : goal.returns-in-Ok-Receive-clause-does
returns-in-Ok-Receive-clause-does g c =
    done (map g.S.AsStr.text c.args.words.now) (outside (g.D.Devices.terminal c.args.devices.now) (g.T.Pace.calls c.args.teller.now) (g.T.Pace.calls c.receive.new.teller)
    (g.D.Devices.failed c.args.devices.now) (g.D.Devices.failed c.receive.new.devices) (g.D.Devices.earlier c.args.devices.now) (g.D.Devices.earlier c.receive.new.devices) (g.D.Devices.stands c.receive.new.devices)) (g.D.Devices.stands c.args.devices.now)
    g.D.Devices.blank c.receive.result c.end_of-in-Ok-Receive.result
    (g.D.Devices.placed c.args.devices.now) (g.D.Devices.placed c.receive.new.devices) (g.D.Devices.filed c.args.devices.now) (g.D.Devices.filed c.receive.new.devices)
    (Receive c.in-Ok-Receive.job) c.end_of-in-Ok-Receive.ensures
    (rw c.in-Ok-Receive.field-0-is at c.in-Ok-Receive.ensures.job) c.receive.ensures.does

pub returns-in-Ok-Follow-clause-does : goal.returns-in-Ok-Follow-clause-does
returns-in-Ok-Follow-clause-does g c =
    done (map g.S.AsStr.text c.args.words.now) (outside (g.D.Devices.terminal c.args.devices.now) (g.T.Pace.calls c.args.teller.now) (g.T.Pace.calls c.follow.new.teller)
    (g.D.Devices.failed c.args.devices.now) (g.D.Devices.failed c.follow.new.devices) (g.D.Devices.earlier c.args.devices.now) (g.D.Devices.earlier c.follow.new.devices) (g.D.Devices.stands c.follow.new.devices)) (g.D.Devices.stands c.args.devices.now)
    g.D.Devices.blank c.follow.result c.end_of-in-Ok-Follow.result
    (g.D.Devices.placed c.args.devices.now) (g.D.Devices.placed c.follow.new.devices) (g.D.Devices.filed c.args.devices.now) (g.D.Devices.filed c.follow.new.devices)
    (Follow c.in-Ok-Follow.job) c.end_of-in-Ok-Follow.ensures
    (rw c.in-Ok-Follow.field-0-is at c.in-Ok-Follow.ensures.job) c.follow.ensures.does

pub returns-in-Ok-Info-clause-does : goal.returns-in-Ok-Info-clause-does
returns-in-Ok-Info-clause-does g c =
    done (map g.S.AsStr.text c.args.words.now) (outside (g.D.Devices.terminal c.args.devices.now) (g.T.Pace.calls c.args.teller.now) (g.T.Pace.calls c.info.new.teller)
    (g.D.Devices.failed c.args.devices.now) (g.D.Devices.failed c.info.new.devices) (g.D.Devices.earlier c.args.devices.now) (g.D.Devices.earlier c.info.new.devices) (g.D.Devices.stands c.info.new.devices)) (g.D.Devices.stands c.args.devices.now)
    g.D.Devices.blank c.info.result c.end_of-in-Ok-Info.result
    (g.D.Devices.placed c.args.devices.now) (g.D.Devices.placed c.info.new.devices) (g.D.Devices.filed c.args.devices.now) (g.D.Devices.filed c.info.new.devices)
    (Info c.in-Ok-Info.job) c.end_of-in-Ok-Info.ensures
    (rw c.in-Ok-Info.field-0-is at c.in-Ok-Info.ensures.job) c.info.ensures.does

pub returns-in-Ok-Protect-clause-does : goal.returns-in-Ok-Protect-clause-does
returns-in-Ok-Protect-clause-does g c =
    done (map g.S.AsStr.text c.args.words.now) (outside (g.D.Devices.terminal c.args.devices.now) (g.T.Pace.calls c.args.teller.now) (g.T.Pace.calls c.protect_file.new.teller)
    (g.D.Devices.failed c.args.devices.now) (g.D.Devices.failed c.protect_file.new.devices) (g.D.Devices.earlier c.args.devices.now) (g.D.Devices.earlier c.protect_file.new.devices) (g.D.Devices.stands c.protect_file.new.devices)) (g.D.Devices.stands c.args.devices.now)
    g.D.Devices.blank c.protect_file.result c.end_of-in-Ok-Protect.result
    (g.D.Devices.placed c.args.devices.now) (g.D.Devices.placed c.protect_file.new.devices) (g.D.Devices.filed c.args.devices.now) (g.D.Devices.filed c.protect_file.new.devices)
    (Protect c.in-Ok-Protect.job) c.end_of-in-Ok-Protect.ensures
    (rw c.in-Ok-Protect.field-0-is at c.in-Ok-Protect.ensures.job) (c.protect_file.ensures.does, c.protect_file.ensures.filed, c.protect_file.ensures.earlier)

pub returns-in-Ok-Check-clause-does : goal.returns-in-Ok-Check-clause-does
returns-in-Ok-Check-clause-does g c =
    done (map g.S.AsStr.text c.args.words.now) (outside (g.D.Devices.terminal c.args.devices.now) (g.T.Pace.calls c.args.teller.now) (g.T.Pace.calls c.check.new.teller)
    (g.D.Devices.failed c.args.devices.now) (g.D.Devices.failed c.check.new.devices) (g.D.Devices.earlier c.args.devices.now) (g.D.Devices.earlier c.check.new.devices) (g.D.Devices.stands c.check.new.devices)) (g.D.Devices.stands c.args.devices.now)
    g.D.Devices.blank c.check.result c.end_of-in-Ok-Check.result
    (g.D.Devices.placed c.args.devices.now) (g.D.Devices.placed c.check.new.devices) (g.D.Devices.filed c.args.devices.now) (g.D.Devices.filed c.check.new.devices)
    (Check c.in-Ok-Check.job) c.end_of-in-Ok-Check.ensures
    (rw c.in-Ok-Check.field-0-is at c.in-Ok-Check.ensures.job) (c.check.ensures.does, c.check.ensures.filed, c.check.ensures.earlier, c.check.ensures.stays)

pub returns-in-Ok-Repair-clause-does : goal.returns-in-Ok-Repair-clause-does
returns-in-Ok-Repair-clause-does g c =
    done (map g.S.AsStr.text c.args.words.now) (outside (g.D.Devices.terminal c.args.devices.now) (g.T.Pace.calls c.args.teller.now) (g.T.Pace.calls c.repair.new.teller)
    (g.D.Devices.failed c.args.devices.now) (g.D.Devices.failed c.repair.new.devices) (g.D.Devices.earlier c.args.devices.now) (g.D.Devices.earlier c.repair.new.devices) (g.D.Devices.stands c.repair.new.devices)) (g.D.Devices.stands c.args.devices.now)
    g.D.Devices.blank c.repair.result c.end_of-in-Ok-Repair.result
    (g.D.Devices.placed c.args.devices.now) (g.D.Devices.placed c.repair.new.devices) (g.D.Devices.filed c.args.devices.now) (g.D.Devices.filed c.repair.new.devices)
    (Repair c.in-Ok-Repair.job) c.end_of-in-Ok-Repair.ensures
    (rw c.in-Ok-Repair.field-0-is at c.in-Ok-Repair.ensures.job) (c.repair.ensures.does, c.repair.ensures.filed, c.repair.ensures.earlier)

pub returns-in-Ok-Split-clause-does : goal.returns-in-Ok-Split-clause-does
returns-in-Ok-Split-clause-does g c =
    done (map g.S.AsStr.text c.args.words.now) (outside (g.D.Devices.terminal c.args.devices.now) (g.T.Pace.calls c.args.teller.now) (g.T.Pace.calls c.split.new.teller)
    (g.D.Devices.failed c.args.devices.now) (g.D.Devices.failed c.split.new.devices) (g.D.Devices.earlier c.args.devices.now) (g.D.Devices.earlier c.split.new.devices) (g.D.Devices.stands c.split.new.devices)) (g.D.Devices.stands c.args.devices.now)
    g.D.Devices.blank c.split.result c.end_of-in-Ok-Split.result
    (g.D.Devices.placed c.args.devices.now) (g.D.Devices.placed c.split.new.devices) (g.D.Devices.filed c.args.devices.now) (g.D.Devices.filed c.split.new.devices)
    (Split c.in-Ok-Split.job) c.end_of-in-Ok-Split.ensures
    (rw c.in-Ok-Split.field-0-is at c.in-Ok-Split.ensures.job) (c.split.ensures.does, c.split.ensures.filed, c.split.ensures.earlier)

pub returns-in-Ok-Join-clause-does : goal.returns-in-Ok-Join-clause-does
returns-in-Ok-Join-clause-does g c =
    done (map g.S.AsStr.text c.args.words.now) (outside (g.D.Devices.terminal c.args.devices.now) (g.T.Pace.calls c.args.teller.now) (g.T.Pace.calls c.receive-in-Ok-Join.new.teller)
    (g.D.Devices.failed c.args.devices.now) (g.D.Devices.failed c.receive-in-Ok-Join.new.devices) (g.D.Devices.earlier c.args.devices.now) (g.D.Devices.earlier c.receive-in-Ok-Join.new.devices) (g.D.Devices.stands c.receive-in-Ok-Join.new.devices)) (g.D.Devices.stands c.args.devices.now)
    g.D.Devices.blank c.receive-in-Ok-Join.result c.end_of-in-Ok-Join.result
    (g.D.Devices.placed c.args.devices.now) (g.D.Devices.placed c.receive-in-Ok-Join.new.devices) (g.D.Devices.filed c.args.devices.now) (g.D.Devices.filed c.receive-in-Ok-Join.new.devices)
    (Join c.in-Ok-Join.job) c.end_of-in-Ok-Join.ensures
    (rw c.in-Ok-Join.field-0-is at c.in-Ok-Join.ensures.job) c.receive-in-Ok-Join.ensures.does
