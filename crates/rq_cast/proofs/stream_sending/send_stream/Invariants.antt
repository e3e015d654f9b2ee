use Rattle.std.proofs.Common.{◌≡◌, ◌-◌, ◌^◌, ◌≤◌}
use Rattle.rq_cast.specs.Output.{sink, CountsLost}
use Rattle.rq_cast.proofs.StreamSteps.{HasSentWhole}
use Rattle.rq_cast.proofs.stream_sending.send_stream.Given as goal

-- all that was read is sent, in whole parts
abbrev pub invariant-parts : goal.invariant-parts
invariant-parts g l = record {
  sent : HasSentWhole l.order l.key l.fn.known (g.R.Read.remaining l.fn.reader.inner) (g.R.Read.remaining l.reader.inner)
      (g.W.Write.contents (sink l.fn.output)) (g.W.Write.contents (sink l.output)) (g.P.Pace.calls l.fn.pace) (g.P.Pace.calls l.pace) l.stream;
  few : l.stream.names.count ≤ 2 ^ 30;
  reader : l.reader.failed ≡ l.fn.reader.failed;
  counts : CountsLost l.fn.output l.output l.stream.lost 0;
}

abbrev pub decreases-parts : goal.decreases-parts
decreases-parts g l = 2 ^ 30 - l.stream.names.count
