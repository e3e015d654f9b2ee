use Rattle.std.proofs.Common.{◌≡◌, sym, ap, subst, ◌∙◌, refl, arith, inl, inr, take, Err, Ok}
use Rattle.std.specs.Io.KnownBytes.{Appends, Consumes}
use Rattle.std.proofs.KnownBytes.{Consumes-nil}
use Rattle.std.proofs.lemmas.Result.{err_from_is_err_and}
use Rattle.std.proofs.lemmas.List.{nil_from_length}
use Rattle.rq_streams.specs.Counted.{inner}
use Rattle.rq_cells.specs.Wanted.{wish_of}
use Rattle.rq_streams.specs.Ends.{failed_calls}
use Rattle.rq_streams.specs.declared.run.Stop.TheVariants.{Fault}
use Rattle.rq_cast.specs.Input.{counted_of, last_piece, unread}
use Rattle.rq_cast.specs.Receiving.{Feeds, HandsOutOf}
use Rattle.rq_cast.specs.Received.{EndsReceiving, EndsAtFailedCall}
use Rattle.rq_cast.proofs.Failing.{counted_calls}
use Rattle.rq_cast.proofs.Runs.{runs_first, stops_unread, writes_all_read, ends_unread, stops_unfed, stops_unwritten, ends_written, ends_given_up, not_given_up, stopped_not_given_up, given_up_in_time, runs_on}
use Rattle.rq_cast.proofs.run.run_receive.Goals as goal

pub reading-init : goal.reading-init
reading-init g c =
    let w = c.args.wanted.now in
    let there = g.W.Write.contents (inner c.args.writer.now) in
    record {
      running = runs_first w.table.now (wish_of w) c.args.window (unread g.R.Read.remaining c.args.input.now) there
          c.new-receiver.result c.all_seen.result (c.new-receiver.ensures.fed 65536) c.all_seen.ensures c.new-receiver.ensures.none
          c.new-receiver.ensures.open_still c.new-receiver.ensures.sound;
      once = λ some. absurd (omega (arith, some));
      reads = refl;
      writes = refl;
    }

pub returns-in_err-n-clause-failures : goal.returns-in_err-n-clause-failures
returns-in_err-n-clause-failures g c =
    let p = err_from_is_err_and c.from_residual.result c.from_residual.ensures.1 in
    let fault : c.from_residual.result ≡ Err Fault = p.1 ∙ ap (λ s. Err s) (p.2 ∙ c.in_err-n.ensures.fault) in
    rw fault
    (counted_calls (counted_of c.args.input.now) (counted_of c.read.new.self) c.args.writer.now c.reading.writer (Err Fault) 1 0
    (omega (arith, c.in_err-n.ensures.err, c.reading.invariant.reads, c.requires.reads)) (omega (arith, c.reading.invariant.writes)) refl)

pub returns-in_err-n-clause-ends : goal.returns-in_err-n-clause-ends
returns-in_err-n-clause-ends g c =
    let p = err_from_is_err_and c.from_residual.result c.from_residual.ensures.1 in
    let fault : c.from_residual.result ≡ Err Fault = p.1 ∙ ap (λ s. Err s) (p.2 ∙ c.in_err-n.ensures.fault) in
    let w = c.args.wanted.now in
    rw fault
    (stops_unread w.table.now (wish_of w) c.args.window (unread g.R.Read.remaining c.args.input.now) (g.W.Write.contents (inner c.args.writer.now))
    (unread g.R.Read.remaining c.reading.input) (g.W.Write.contents (inner c.reading.writer)) c.reading._reads c.reading.receiver c.reading.seen
    c.reading.invariant.running (unread g.R.Read.remaining c.read.new.self) c.in_err-n.ensures.kept (last_piece c.read.new.self))

pub returns-in_err-n-clause-at_once : goal.returns-in_err-n-clause-at_once
returns-in_err-n-clause-at_once g c = λ failed.
    let w = c.args.wanted.now in
    writes_all_read w.table.now (wish_of w) c.args.window (unread g.R.Read.remaining c.args.input.now) (g.W.Write.contents (inner c.args.writer.now))
    (unread g.R.Read.remaining c.reading.input) (g.W.Write.contents (inner c.reading.writer)) c.reading._reads c.reading.receiver c.reading.seen
    c.reading.invariant.running (unread g.R.Read.remaining c.read.new.self) c.in_err-n.ensures.kept

-- no read failed
pub returns-then-n-eq0-clause-at_once : goal.returns-then-n-eq0-clause-at_once
returns-then-n-eq0-clause-at_once g c = λ failed. absurd (omega (arith, failed, c.in_ok-n.ensures.ok, c.reading.invariant.reads))

pub returns-in_err-feed-clause-at_once : goal.returns-in_err-feed-clause-at_once
returns-in_err-feed-clause-at_once g c = λ failed. absurd (omega (arith, failed, c.in_ok-n.ensures.ok, c.reading.invariant.reads))

pub returns-in_err-write_part-clause-at_once : goal.returns-in_err-write_part-clause-at_once
returns-in_err-write_part-clause-at_once g c = λ failed. absurd (omega (arith, failed, c.in_ok-n.ensures.ok, c.reading.invariant.reads))

pub returns-then-has_ended-clause-at_once : goal.returns-then-has_ended-clause-at_once
returns-then-has_ended-clause-at_once g c = λ failed. absurd (omega (arith, failed, c.in_ok-n.ensures.ok, c.reading.invariant.reads))

pub returns-clause-at_once : goal.returns-clause-at_once
returns-clause-at_once g c = λ failed. absurd (omega (arith, failed, c.reading.invariant.reads))

pub returns-then-n-eq0-clause-failures : goal.returns-then-n-eq0-clause-failures
returns-then-n-eq0-clause-failures g c =
    counted_calls (counted_of c.args.input.now) (counted_of c.read.new.self) c.args.writer.now c.reading.writer (Ok c.ending.result) 0 0
    (omega (arith, c.in_ok-n.ensures.ok, c.reading.invariant.reads)) (omega (arith, c.reading.invariant.writes)) refl

pub returns-then-n-eq0-clause-ends : goal.returns-then-n-eq0-clause-ends
returns-then-n-eq0-clause-ends g c =
    let w = c.args.wanted.now in
    let mid = unread g.R.Read.remaining c.reading.input in
    let after = unread g.R.Read.remaining c.read.new.self in
    ends_unread w.table.now (wish_of w) c.args.window (unread g.R.Read.remaining c.args.input.now) (g.W.Write.contents (inner c.args.writer.now))
    mid (g.W.Write.contents (inner c.reading.writer)) c.reading._reads c.reading.receiver c.reading.seen
    c.reading.invariant.running c.ending.result c.ending.ensures after (last_piece c.read.new.self)
    (subst (Consumes mid after) (nil_from_length (last_piece c.read.new.self) (c.in_ok-n.ensures.length ∙ c.if-n-eq0.true)) c.in_ok-n.ensures.bytes)
    (inl (c.in_ok-n.ensures.end c.if-n-eq0.true))

pub feed-requires : goal.feed-requires
feed-requires g c = c.reading.invariant.running.sound

pub returns-in_err-feed-clause-failures : goal.returns-in_err-feed-clause-failures
returns-in_err-feed-clause-failures g c =
    let p = err_from_is_err_and c.from_residual-in_err-feed.result c.from_residual-in_err-feed.ensures.1 in
    rw (p.1, p.2)
    (counted_calls (counted_of c.args.input.now) (counted_of c.read.new.self) c.args.writer.now c.reading.writer _ 0 0
    (omega (arith, c.in_ok-n.ensures.ok, c.reading.invariant.reads)) (omega (arith, c.reading.invariant.writes)) refl)

pub returns-in_err-feed-clause-ends : goal.returns-in_err-feed-clause-ends
returns-in_err-feed-clause-ends g c =
    let p = err_from_is_err_and c.from_residual-in_err-feed.result c.from_residual-in_err-feed.ensures.1 in
    let w = c.args.wanted.now in
    rw (p.1, p.2)
    (stops_unfed w.table.now (wish_of w) c.args.window (unread g.R.Read.remaining c.args.input.now) (g.W.Write.contents (inner c.args.writer.now))
    (unread g.R.Read.remaining c.reading.input) (g.W.Write.contents (inner c.reading.writer)) c.reading._reads c.reading.receiver c.reading.seen
    c.reading.invariant.running (unread g.R.Read.remaining c.read.new.self) (last_piece c.read.new.self) c.in_ok-n.ensures.bytes
    (omega (arith, c.in_ok-n.ensures.length, c.if-n-eq0.false)) (omega (arith, c.in_ok-n.ensures.length, c.in_ok-n.ensures.few))
    c.in_err-feed.field-0.0 c.in_err-feed.ensures.memory)

pub write_part-requires : goal.write_part-requires
write_part-requires g c = omega (arith, c.reading.invariant.writes, c.requires.writes)

pub returns-in_err-write_part-clause-failures : goal.returns-in_err-write_part-clause-failures
returns-in_err-write_part-clause-failures g c =
    let p = err_from_is_err_and c.from_residual-in_err-write_part.result c.from_residual-in_err-write_part.ensures.1 in
    let one = ap (λ stop. failed_calls {X = Unit {0}} (Err stop)) c.in_err-write_part.ensures.err in
    rw (p.1, p.2) (subst (λ stop. EndsAtFailedCall (counted_of c.args.input.now) c.args.writer.now
    (Err stop) (counted_of c.read.new.self) c.write_part.new.writer) (sym c.in_err-write_part.ensures.err)
    (counted_calls (counted_of c.args.input.now) (counted_of c.read.new.self) c.args.writer.now c.write_part.new.writer (Err Fault) 0 1
    (omega (arith, c.in_ok-n.ensures.ok, c.reading.invariant.reads)) (omega (arith, c.reading.invariant.writes, c.in_err-write_part.ensures.counts, one)) refl))

pub returns-in_err-write_part-clause-ends : goal.returns-in_err-write_part-clause-ends
returns-in_err-write_part-clause-ends g c =
    let p = err_from_is_err_and c.from_residual-in_err-write_part.result c.from_residual-in_err-write_part.ensures.1 in
    let w = c.args.wanted.now in
    let before = unread g.R.Read.remaining c.args.input.now in
    let after = unread g.R.Read.remaining c.read.new.self in
    let there = g.W.Write.contents (inner c.args.writer.now) in
    let then = g.W.Write.contents (inner c.reading.writer) in
    let then' = g.W.Write.contents (inner c.write_part.new.writer) in
    let ready = c.as_slice.ensures.value ∙ c.take_ready.ensures.ready in
    let (count, begun) = c.in_err-write_part.ensures.beginning in
    rw (p.1, p.2)
    (subst (λ stop. EndsReceiving w.table.now (wish_of w) c.args.window (Err stop) c.all_seen-in-reading.result before after (last_piece c.read.new.self) there then')
    (sym c.in_err-write_part.ensures.err)
    (stops_unwritten w.table.now (wish_of w) c.args.window before there
    (unread g.R.Read.remaining c.reading.input) then c.reading._reads c.reading.receiver c.reading.seen
    c.reading.invariant.running after (last_piece c.read.new.self) c.in_ok-n.ensures.bytes
    (omega (arith, c.in_ok-n.ensures.length, c.if-n-eq0.false)) (omega (arith, c.in_ok-n.ensures.length, c.in_ok-n.ensures.few))
    c.feed.new.self (subst (λ xs. Feeds xs c.reading.receiver c.feed.new.self) c.piece.ensures c.in_ok-feed.ensures.fed) c.all_seen-in-reading.result c.all_seen-in-reading.ensures then' count
    (subst (λ xs. Appends then then' (take count xs)) ready begun)))

pub returns-then-has_ended-clause-failures : goal.returns-then-has_ended-clause-failures
returns-then-has_ended-clause-failures g c =
    counted_calls (counted_of c.args.input.now) (counted_of c.read.new.self) c.args.writer.now c.write_part.new.writer (Ok c.ending-then-has_ended.result) 0 0
    (omega (arith, c.in_ok-n.ensures.ok, c.reading.invariant.reads)) (omega (arith, c.reading.invariant.writes, c.in_ok-write_part.ensures.counts)) refl

pub returns-then-has_ended-clause-ends : goal.returns-then-has_ended-clause-ends
returns-then-has_ended-clause-ends g c =
    let w = c.args.wanted.now in
    let then = g.W.Write.contents (inner c.reading.writer) in
    let then' = g.W.Write.contents (inner c.write_part.new.writer) in
    let ready = c.as_slice.ensures.value ∙ c.take_ready.ensures.ready in
    ends_written w.table.now (wish_of w) c.args.window (unread g.R.Read.remaining c.args.input.now) (g.W.Write.contents (inner c.args.writer.now))
    (unread g.R.Read.remaining c.reading.input) then c.reading._reads c.reading.receiver c.reading.seen
    c.reading.invariant.running (unread g.R.Read.remaining c.read.new.self) (last_piece c.read.new.self) c.in_ok-n.ensures.bytes
    (omega (arith, c.in_ok-n.ensures.length, c.if-n-eq0.false)) (omega (arith, c.in_ok-n.ensures.length, c.in_ok-n.ensures.few))
    c.feed.new.self (subst (λ xs. Feeds xs c.reading.receiver c.feed.new.self) c.piece.ensures c.in_ok-feed.ensures.fed) c.all_seen-in-reading.result c.all_seen-in-reading.ensures then'
    (subst (λ xs. Appends then then' xs) ready c.in_ok-write_part.ensures.bytes) c.take_ready.new.self
    (subst (λ xs. HandsOutOf c.feed.new.self xs c.take_ready.new.self) c.take_ready.ensures.ready c.take_ready.ensures.hands)
    c.take_ready.ensures.shows c.take_ready.ensures.none (c.take_ready.ensures.sound c.in_ok-feed.ensures.sound)
    (sym c.has_ended.ensures ∙ c.if-has_ended.true) c.ending-then-has_ended.result c.ending-then-has_ended.ensures

pub returns-in-Some-clause-failures : goal.returns-in-Some-clause-failures
returns-in-Some-clause-failures g c =
    counted_calls (counted_of c.args.input.now) (counted_of c.read.new.self) c.args.writer.now c.write_part.new.writer (Ok c.in-Some.ending) 0 0
    (omega (arith, c.in_ok-n.ensures.ok, c.reading.invariant.reads)) (omega (arith, c.reading.invariant.writes, c.in_ok-write_part.ensures.counts)) refl

pub returns-in-Some-clause-at_once : goal.returns-in-Some-clause-at_once
returns-in-Some-clause-at_once g c = λ failed. absurd (omega (arith, failed, c.in_ok-n.ensures.ok, c.reading.invariant.reads))

pub returns-in-Some-clause-ends : goal.returns-in-Some-clause-ends
returns-in-Some-clause-ends g c =
    let w = c.args.wanted.now in
    let then = g.W.Write.contents (inner c.reading.writer) in
    let then' = g.W.Write.contents (inner c.write_part.new.writer) in
    let ready = c.as_slice.ensures.value ∙ c.take_ready.ensures.ready in
    ends_given_up w.table.now (wish_of w) c.args.window (unread g.R.Read.remaining c.args.input.now) (g.W.Write.contents (inner c.args.writer.now))
    (unread g.R.Read.remaining c.reading.input) then c.reading._reads c.reading.receiver c.reading.seen
    c.reading.invariant.running (unread g.R.Read.remaining c.read.new.self) (last_piece c.read.new.self) c.in_ok-n.ensures.bytes
    (omega (arith, c.in_ok-n.ensures.length, c.if-n-eq0.false)) (omega (arith, c.in_ok-n.ensures.length, c.in_ok-n.ensures.few))
    c.feed.new.self (subst (λ xs. Feeds xs c.reading.receiver c.feed.new.self) c.piece.ensures c.in_ok-feed.ensures.fed) c.all_seen-in-reading.result c.all_seen-in-reading.ensures then'
    (subst (λ xs. Appends then then' xs) ready c.in_ok-write_part.ensures.bytes) c.take_ready.new.self
    (subst (λ xs. HandsOutOf c.feed.new.self xs c.take_ready.new.self) c.take_ready.ensures.ready c.take_ready.ensures.hands)
    c.take_ready.ensures.shows c.take_ready.ensures.none (c.take_ready.ensures.sound c.in_ok-feed.ensures.sound)
    c.in-Some.ending c.in-Some.ensures.tells

pub reading-preserved : goal.reading-preserved
reading-preserved g c =
    let w = c.args.wanted.now in
    let then = g.W.Write.contents (inner c.reading.writer) in
    let then' = g.W.Write.contents (inner c.write_part.new.writer) in
    let ready = c.as_slice.ensures.value ∙ c.take_ready.ensures.ready in
    record {
      running = runs_on w.table.now (wish_of w) c.args.window (unread g.R.Read.remaining c.args.input.now)
          (g.W.Write.contents (inner c.args.writer.now)) (unread g.R.Read.remaining c.reading.input) then c.reading._reads c.reading.receiver c.reading.seen
          c.reading.invariant.running (unread g.R.Read.remaining c.read.new.self) (last_piece c.read.new.self) c.in_ok-n.ensures.bytes
          (omega (arith, c.in_ok-n.ensures.length, c.if-n-eq0.false)) (omega (arith, c.in_ok-n.ensures.length, c.in_ok-n.ensures.few))
          c.feed.new.self (subst (λ xs. Feeds xs c.reading.receiver c.feed.new.self) c.piece.ensures c.in_ok-feed.ensures.fed) c.all_seen-in-reading.result c.all_seen-in-reading.ensures then'
          (subst (λ xs. Appends then then' xs) ready c.in_ok-write_part.ensures.bytes)
          c.take_ready.new.self
          (subst (λ xs. HandsOutOf c.feed.new.self xs c.take_ready.new.self) c.take_ready.ensures.ready c.take_ready.ensures.hands)
          c.take_ready.ensures.shows c.take_ready.ensures.none (c.take_ready.ensures.sound c.in_ok-feed.ensures.sound)
          (sym c.has_ended.ensures ∙ c.if-has_ended.false);
      once = λ some. c.in_ok-n.ensures.once;
      reads = omega (arith, c.in_ok-n.ensures.ok, c.reading.invariant.reads);
      writes = omega (arith, c.reading.invariant.writes, c.in_ok-write_part.ensures.counts);
    }

pub returns-clause-failures : goal.returns-clause-failures
returns-clause-failures g c =
    counted_calls (counted_of c.args.input.now) (counted_of c.reading.input) c.args.writer.now c.reading.writer (Ok c.ending-2.result) 0 0
    (omega (arith, c.reading.invariant.reads)) (omega (arith, c.reading.invariant.writes)) refl

pub returns-clause-ends : goal.returns-clause-ends
returns-clause-ends g c =
    let w = c.args.wanted.now in
    let mid = unread g.R.Read.remaining c.reading.input in
    ends_unread w.table.now (wish_of w) c.args.window (unread g.R.Read.remaining c.args.input.now) (g.W.Write.contents (inner c.args.writer.now))
    mid (g.W.Write.contents (inner c.reading.writer)) c.reading._reads c.reading.receiver c.reading.seen
    c.reading.invariant.running c.ending-2.result c.ending-2.ensures mid (last_piece c.reading.input) (Consumes-nil mid)
    (inr (omega (arith, c.reading-test.false, c.reading.auto._reads-end, c.reading.invariant.running.brought)))

pub returns-clause-once : goal.returns-clause-once
returns-clause-once g c = c.reading.invariant.once (omega (arith, c.reading-test.false, c.reading.auto._reads-end))

pub returns-in_err-n-clause-patient : goal.returns-in_err-n-clause-patient
returns-in_err-n-clause-patient g c = stopped_not_given_up c.args.timeout c.from_residual.result _ c.from_residual.ensures.1

pub returns-then-n-eq0-clause-patient : goal.returns-then-n-eq0-clause-patient
returns-then-n-eq0-clause-patient g c = not_given_up c.reading.receiver c.args.timeout c.ending.result c.ending.ensures

pub returns-in_err-feed-clause-patient : goal.returns-in_err-feed-clause-patient
returns-in_err-feed-clause-patient g c = stopped_not_given_up c.args.timeout c.from_residual-in_err-feed.result _ c.from_residual-in_err-feed.ensures.1

pub returns-in_err-write_part-clause-patient : goal.returns-in_err-write_part-clause-patient
returns-in_err-write_part-clause-patient g c = stopped_not_given_up c.args.timeout c.from_residual-in_err-write_part.result _ c.from_residual-in_err-write_part.ensures.1

pub returns-then-has_ended-clause-patient : goal.returns-then-has_ended-clause-patient
returns-then-has_ended-clause-patient g c = not_given_up c.take_ready.new.self c.args.timeout c.ending-then-has_ended.result c.ending-then-has_ended.ensures

pub returns-in-Some-clause-patient : goal.returns-in-Some-clause-patient
returns-in-Some-clause-patient g c = given_up_in_time c.args.timeout c.in-Some.ending c.in-Some.ensures.patient

pub returns-clause-patient : goal.returns-clause-patient
returns-clause-patient g c = not_given_up c.reading.receiver c.args.timeout c.ending-2.result c.ending-2.ensures
