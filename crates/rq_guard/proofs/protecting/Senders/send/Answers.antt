use Rattle.std.proofs.Common.{inl, inr}
use Rattle.std.proofs.lemmas.Result.{err_from_is_err_and}
use Rattle.rq_cast.specs.Output.{sink}
use Rattle.rq_cast.specs.Sent.{sending_of}
use Rattle.rq_guard.specs.Protecting.{AllThen, AreAllSent, StopsCells}
use Rattle.rq_guard.proofs.GuardCells.{all_then, counts_before}
use Rattle.rq_guard.proofs.protecting.Senders.send.Goals as goal

pub returns-in_err-send_all-clause-stops : goal.returns-in_err-send_all-clause-stops
returns-in_err-send_all-clause-stops g c =
    let p = err_from_is_err_and c.from_residual.result c.from_residual.ensures.1 in
    let stops = c.in_err-send_all.ensures.stops in
    rw (p.1, p.2) (stops.0, inl stops.1, stops.2)

pub returns-in_err-send_all-2-clause-stops : goal.returns-in_err-send_all-2-clause-stops
returns-in_err-send_all-2-clause-stops g c =
    let p = err_from_is_err_and c.from_residual-in_err-send_all-2.result c.from_residual-in_err-send_all-2.ensures.1 in
    let list = sending_of c.args.self.now.list in
    let part = sending_of c.args.self.now.part in
    let stops =
    all_then list (StopsCells part c.in_err-send_all-2.field-0.0) (g.W.Write.contents (sink c.args.output.now)) (g.W.Write.contents (sink c.send_all.new.output))
    (g.W.Write.contents (sink c.send_all-2.new.output)) c.in_ok-send_all.ensures.sends c.in_err-send_all-2.ensures.stops in
    rw (p.1, p.2) (stops.0, inr (inl stops.1), stops.2)

pub returns-in_err-send_all-2-clause-failed : goal.returns-in_err-send_all-2-clause-failed
returns-in_err-send_all-2-clause-failed g c =
    let p = err_from_is_err_and c.from_residual-in_err-send_all-2.result c.from_residual-in_err-send_all-2.ensures.1 in
    rw (p.1, p.2) (counts_before c.args.output.now c.send_all.new.output c.send_all-2.new.output c.in_err-send_all-2.field-0.0 c.in_ok-send_all.ensures.counts
    c.in_err-send_all-2.ensures.failed)

pub returns-in_err-send_all-3-clause-stops : goal.returns-in_err-send_all-3-clause-stops
returns-in_err-send_all-3-clause-stops g c =
    let p = err_from_is_err_and c.from_residual-in_err-send_all-3.result c.from_residual-in_err-send_all-3.ensures.1 in
    let list = sending_of c.args.self.now.list in
    let part = sending_of c.args.self.now.part in
    let last = StopsCells (sending_of c.args.self.now.spare) c.in_err-send_all-3.field-0.0 in
    let there = g.W.Write.contents (sink c.args.output.now) in
    let listed = g.W.Write.contents (sink c.send_all.new.output) in
    let between = g.W.Write.contents (sink c.send_all-2.new.output) in
    let then = g.W.Write.contents (sink c.send_all-3.new.output) in
    let stops =
    all_then list (AllThen part last) there listed then c.in_ok-send_all.ensures.sends
    (all_then part last listed between then c.in_ok-send_all-2.ensures.sends c.in_err-send_all-3.ensures.stops) in
    rw (p.1, p.2) (stops.0, inr (inr stops.1), stops.2)

pub returns-in_err-send_all-3-clause-failed : goal.returns-in_err-send_all-3-clause-failed
returns-in_err-send_all-3-clause-failed g c =
    let p = err_from_is_err_and c.from_residual-in_err-send_all-3.result c.from_residual-in_err-send_all-3.ensures.1 in
    let stop = c.in_err-send_all-3.field-0.0 in
    rw (p.1, p.2) (counts_before c.args.output.now c.send_all.new.output c.send_all-3.new.output stop c.in_ok-send_all.ensures.counts
    (counts_before c.send_all.new.output c.send_all-2.new.output c.send_all-3.new.output stop c.in_ok-send_all-2.ensures.counts
    c.in_err-send_all-3.ensures.failed))

pub returns-clause-sends : goal.returns-clause-sends
returns-clause-sends g c =
    let s = c.args.self.now in
    let there = g.W.Write.contents (sink c.args.output.now) in
    let listed = g.W.Write.contents (sink c.send_all.new.output) in
    let between = g.W.Write.contents (sink c.send_all-2.new.output) in
    let then = g.W.Write.contents (sink c.send_all-3.new.output) in
    all_then (sending_of s.list) (AllThen (sending_of s.part) (AreAllSent (sending_of s.spare))) there listed then c.in_ok-send_all.ensures.sends
    (all_then (sending_of s.part) (AreAllSent (sending_of s.spare)) listed between then c.in_ok-send_all-2.ensures.sends c.in_ok-send_all-3.ensures.sends)
