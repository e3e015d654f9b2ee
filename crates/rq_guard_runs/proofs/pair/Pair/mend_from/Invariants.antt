use Rattle.std.proofs.Common.{◌≡◌, ◌-◌, length}
use Rattle.rq_guard.specs.Mending.{IsSoundMending, mended_parts}
use Rattle.rq_devices.specs.Failed.{Fails}
use Rattle.rq_guard_runs.specs.Pairs.{in_guard}
use Rattle.rq_guard_runs.proofs.MendedParts.{IsMending}
use Rattle.rq_guard_runs.proofs.pair.Pair.mend_from.Given as goal

-- some first parts are mended, and no call failed
abbrev pub invariant-parts : goal.invariant-parts
invariant-parts g l = record {
  mends : IsMending l.self.by.table.now l.self.by.key.now l.lists (g.F.Read.remaining l.fn.file.inner) (g.F.Read.remaining l.file.inner)
      (in_guard l.self (g.D.Devices.stands l.fn.devices)) (g.W.Write.contents l.fn.writer.inner) (g.W.Write.contents l.writer.inner) l.mending;
  sound : IsSoundMending l.self.by.table.now l.mending;
  reads : l.file.failed ≡ 0;
  writes : l.writer.failed ≡ 0;
  fails : Fails (g.D.Devices.failed l.fn.devices) (g.D.Devices.failed l.devices) 0;
  stays : g.D.Devices.stands l.devices ≡ g.D.Devices.stands l.fn.devices;
  kept : g.D.Devices.placed l.devices ≡ g.D.Devices.placed l.fn.devices;
  filed : g.D.Devices.filed l.devices ≡ g.D.Devices.filed l.fn.devices;
  earlier : g.D.Devices.earlier l.devices ≡ g.D.Devices.earlier l.fn.devices;
}

abbrev pub decreases-parts : goal.decreases-parts
decreases-parts g l = length l.lists - mended_parts l.mending
