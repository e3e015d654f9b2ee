use Rattle.std.proofs.Common.{◌≡◌, ◌≤◌, List, []}
use Rattle.rq_cast.specs.Calls.{Call, lost_in}
use Rattle.rq_cast.specs.Output.{sink, CountsLost}
use Rattle.rq_cast.specs.Rows.{HoldsCells}
use Rattle.rq_cast.specs.Sent.{sending_of, SendsFirst}
use Rattle.rq_cast.proofs.sending.Sender.send.Given as goal

-- the cells so far are written or lost, and some stand in a row
abbrev pub invariant-loop-number : goal.invariant-loop-number
invariant-loop-number g l = record {
  sends : (calls : List Call) × (l.lost ≡ lost_in calls)
      × SendsFirst (sending_of l.self) l.number calls [] [] (g.P.Pace.calls l.fn.pace) (g.P.Pace.calls l.pace)
      (g.W.Write.contents (sink l.fn.output)) (g.W.Write.contents (sink l.output));
  counts : CountsLost l.fn.output l.output l.lost 0;
  few : l.lost ≤ l.number;
  row : HoldsCells (sending_of l.self) l.row;
  behind : l.row.from ≤ l.number;
}
