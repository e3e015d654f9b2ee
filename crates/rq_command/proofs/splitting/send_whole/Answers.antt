use Rattle.std.proofs.Common.{arith}
use Rattle.rq_streams.specs.Counted.{inner}
use Rattle.rq_cast.specs.Output.{sink}
use Rattle.rq_command.proofs.Sharded.{counts_lost, counts_stopped, loses_some, never_changed, sends_whole, stops_whole}
use Rattle.rq_command.proofs.splitting.send_whole.Goals as goal

pub returns-in-Err-By-clause-stops : goal.returns-in-Err-By-clause-stops
returns-in-Err-By-clause-stops g c =
    let stops = c.in-Err-By.ensures.stops in
    stops_whole c.args.order.now c.args.key.now c.new-known.result (g.R.Read.remaining (inner c.args.reader.now)) (g.R.Read.remaining (inner c.send_stream.new.reader))
    (g.W.Write.contents (sink c.args.output.now)) (g.W.Write.contents (sink c.send_stream.new.output)) (g.P.Pace.calls c.args.pace.now)
    (g.P.Pace.calls c.send_stream.new.pace) c.new-known.ensures c.in-Err-By.field-0 c.in-Err-By.stop stops.0 c.in-Err-By.field-0-is stops.1

pub returns-in-Err-By-clause-failed : goal.returns-in-Err-By-clause-failed
returns-in-Err-By-clause-failed g c =
    let stops = c.in-Err-By.ensures.stops in
    counts_stopped c.args.reader.now c.send_stream.new.reader c.args.output.now c.send_stream.new.output c.in-Err-By.field-0 c.in-Err-By.stop stops.0
    c.in-Err-By.field-0-is stops.2

pub returns-in-Err-Changed-clause-stops : goal.returns-in-Err-Changed-clause-stops
returns-in-Err-Changed-clause-stops g c =
    let stops = c.in-Err-Changed.ensures.stops in
    absurd (never_changed c.args.order.now c.args.key.now c.new-known.result (g.R.Read.remaining (inner c.args.reader.now))
    (g.R.Read.remaining (inner c.send_stream.new.reader)) (g.W.Write.contents (sink c.args.output.now))
    (g.W.Write.contents (sink c.send_stream.new.output)) (g.P.Pace.calls c.args.pace.now) (g.P.Pace.calls c.send_stream.new.pace)
    c.in-Err-Changed.field-0 _ stops.0 c.in-Err-Changed.field-0-is c.new-known.ensures stops.1)

pub returns-in-Err-Changed-clause-failed : goal.returns-in-Err-Changed-clause-failed
returns-in-Err-Changed-clause-failed g c =
    let stops = c.in-Err-Changed.ensures.stops in
    absurd (never_changed c.args.order.now c.args.key.now c.new-known.result (g.R.Read.remaining (inner c.args.reader.now))
    (g.R.Read.remaining (inner c.send_stream.new.reader)) (g.W.Write.contents (sink c.args.output.now))
    (g.W.Write.contents (sink c.send_stream.new.output)) (g.P.Pace.calls c.args.pace.now) (g.P.Pace.calls c.send_stream.new.pace)
    c.in-Err-Changed.field-0 _ stops.0 c.in-Err-Changed.field-0-is c.new-known.ensures stops.1)

pub returns-then-sent-gt0-clause-stops : goal.returns-then-sent-gt0-clause-stops
returns-then-sent-gt0-clause-stops g c =
    loses_some c.args.order.now c.args.key.now c.new-known.result (g.R.Read.remaining (inner c.args.reader.now))
    (g.R.Read.remaining (inner c.send_stream.new.reader)) (g.W.Write.contents (sink c.args.output.now))
    (g.W.Write.contents (sink c.send_stream.new.output)) (g.P.Pace.calls c.args.pace.now) (g.P.Pace.calls c.send_stream.new.pace)
    c.new-known.ensures c.in-Ok.sent _ c.in-Ok.ensures.sends c.if-sent-gt0.true

pub returns-then-sent-gt0-clause-failed : goal.returns-then-sent-gt0-clause-failed
returns-then-sent-gt0-clause-failed g c =
    counts_lost c.args.reader.now c.send_stream.new.reader c.args.output.now c.send_stream.new.output c.in-Ok.sent.lost c.in-Ok.ensures.reader
    c.in-Ok.ensures.counts c.if-sent-gt0.true

pub returns-clause-sends : goal.returns-clause-sends
returns-clause-sends g c =
    sends_whole c.args.order.now c.args.key.now c.new-known.result (g.R.Read.remaining (inner c.args.reader.now))
    (g.R.Read.remaining (inner c.send_stream.new.reader)) (g.W.Write.contents (sink c.args.output.now))
    (g.W.Write.contents (sink c.send_stream.new.output)) (g.P.Pace.calls c.args.pace.now) (g.P.Pace.calls c.send_stream.new.pace)
    c.new-known.ensures c.in-Ok.sent _ c.in-Ok.ensures.sends (omega (arith, c.if-sent-gt0.false))
