use Rattle.std.proofs.Common.{◌≡◌, map}
use Rattle.rq_streams.specs.Counted.{failed_count}
use Rattle.rq_cast.specs.Input.{counted_of, unread}
use Rattle.rq_devices.specs.Failed.{Fails}
use Rattle.rq_devices.specs.Spots.{InFolder}
use Rattle.rq_command.proofs.Followed.{IsFollowing}
use Rattle.rq_command.proofs.following.follow_all.Given as goal

-- so many streams are whole or given up, and no call failed
abbrev pub invariant-streams : goal.invariant-streams
invariant-streams g l = record {
  following : IsFollowing l.fn.run.table.now l.fn.run.key.now (map (λ v. v.items) l.fn.passed.items) l.fn.run.window l.fn.run.timeout (g.D.Devices.blank (InFolder l.fn.run.folder.now))
      (unread g.D.Reader.Read.remaining l.fn.input) (g.D.Devices.filed l.fn.devices) l.number l.streams (map (λ v. v.items) l.passed.items)
      (unread g.D.Reader.Read.remaining l.input) (g.D.Devices.filed l.devices);
  none : failed_count (counted_of l.input) ≡ 0;
  fails : Fails (g.D.Devices.failed l.fn.devices) (g.D.Devices.failed l.devices) 0;
  kept : g.D.Devices.placed l.devices ≡ g.D.Devices.placed l.fn.devices;
  earlier : g.D.Devices.earlier l.devices ≡ g.D.Devices.earlier l.fn.devices;
}
