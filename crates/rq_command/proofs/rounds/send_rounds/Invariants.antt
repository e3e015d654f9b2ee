use Rattle.std.proofs.Common.{◌≡◌, ◌≤◌, map}
use Rattle.rq_command.proofs.RoundSteps.{HasSentRounds}
use Rattle.rq_command.proofs.rounds.send_rounds.Given as goal

-- so many rounds are sent of what stands in the files
abbrev pub invariant-loop-round : goal.invariant-loop-round
invariant-loop-round g l = record {
  has : HasSentRounds g.D.Writer.Write.contents l.fn.unsent (g.D.Devices.stands l.fn.devices (map (λ s. s.now) l.fn.unsent.files.items)) l.rounds l._round
      (g.T.Pace.calls l.fn.teller) (g.T.Pace.calls l.teller) (g.D.Devices.failed l.fn.devices) (g.D.Devices.failed l.devices);
  within : l._round ≤ l.fn.unsent.all;
  stays : g.D.Devices.stands l.devices ≡ g.D.Devices.stands l.fn.devices;
  kept : g.D.Devices.placed l.devices ≡ g.D.Devices.placed l.fn.devices;
  filed : g.D.Devices.filed l.devices ≡ g.D.Devices.filed l.fn.devices;
  earlier : g.D.Devices.earlier l.devices ≡ g.D.Devices.earlier l.fn.devices;
}
