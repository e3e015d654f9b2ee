use Rattle.std.proofs.Common.{arith}
use Rattle.std.proofs.lemmas.Result.{err_from_is_err_and}
use Rattle.rq_cast.specs.Output.{sink}
use Rattle.rq_cast.specs.Sent.{sending_of}
use Rattle.rq_guard.proofs.GuardCells.{sends_all, stops_lost, stops_all, counts_stopped}
use Rattle.rq_guard.proofs.protecting.send_all.Goals as goal

pub returns-in_err-lost-clause-stops : goal.returns-in_err-lost-clause-stops
returns-in_err-lost-clause-stops g c =
    let stops = c.in_err-lost.ensures.stops in
    let p = err_from_is_err_and c.from_residual.result c.from_residual.ensures.1 in
    rw (p.1, p.2) (stops_all (sending_of c.args.sender.now) (g.W.Write.contents (sink c.args.output.now)) (g.W.Write.contents (sink c.send.new.output))
    (g.P.Pace.calls c.args.pace.now) (g.P.Pace.calls c.send.new.pace) stops.0 c.in_err-lost.field-0.0 stops.2)

pub returns-in_err-lost-clause-failed : goal.returns-in_err-lost-clause-failed
returns-in_err-lost-clause-failed g c =
    let stops = c.in_err-lost.ensures.stops in
    let p = err_from_is_err_and c.from_residual.result c.from_residual.ensures.1 in
    rw (p.1, p.2) (counts_stopped (sending_of c.args.sender.now) (g.W.Write.contents (sink c.args.output.now)) (g.W.Write.contents (sink c.send.new.output))
    (g.P.Pace.calls c.args.pace.now) (g.P.Pace.calls c.send.new.pace) stops.0 c.args.output.now c.send.new.output c.in_err-lost.field-0.0 stops.1 stops.2)

pub returns-then-lost-gt0-clause-stops : goal.returns-then-lost-gt0-clause-stops
returns-then-lost-gt0-clause-stops g c =
    let sends = c.in_ok-lost.ensures.sends in
    stops_lost (sending_of c.args.sender.now) (g.W.Write.contents (sink c.args.output.now)) (g.W.Write.contents (sink c.send.new.output))
    (g.P.Pace.calls c.args.pace.now) (g.P.Pace.calls c.send.new.pace) sends.0 sends.2

pub returns-then-lost-gt0-clause-failed : goal.returns-then-lost-gt0-clause-failed
returns-then-lost-gt0-clause-failed g c = omega (arith, c.if-lost-gt0.true, c.in_ok-lost.ensures.counts.failed)

pub returns-clause-sends : goal.returns-clause-sends
returns-clause-sends g c =
    let sends = c.in_ok-lost.ensures.sends in
    sends_all (sending_of c.args.sender.now) (g.W.Write.contents (sink c.args.output.now)) (g.W.Write.contents (sink c.send.new.output))
    (g.P.Pace.calls c.args.pace.now) (g.P.Pace.calls c.send.new.pace) sends.0 (omega (arith, c.if-lost-gt0.false, sends.1)) sends.2

pub returns-clause-counts : goal.returns-clause-counts
returns-clause-counts g c =
    let counts = c.in_ok-lost.ensures.counts in
    record { lost_more = omega (arith, c.if-lost-gt0.false, counts.lost_more); failed = omega (arith, c.if-lost-gt0.false, counts.failed) }
