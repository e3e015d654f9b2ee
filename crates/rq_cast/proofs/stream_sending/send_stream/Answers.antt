use Rattle.std.proofs.Common.{◌≡◌, ℕ, ◌+◌, ◌^◌, Bool, true, false, Vec, Global, List, Option, length, inl, inr, refl, ap, ◌∙◌, arith, rules}
use Rattle.std.specs.Prelude.{nat_lt}
use Rattle.std.proofs.lemmas.Bool.{lt-ltb, le-ltb}
use Rattle.std.proofs.lemmas.Result.{err_from_is_err_and}
use Rattle.rq_cast.specs.declared.halt.Halt.{Halt}
use Rattle.rq_cast.specs.declared.known.Known.{Known}
use Rattle.rq_cast.specs.Rounds.{next_stage}
use Rattle.rq_streams.specs.Counted.{inner}
use Rattle.rq_cast.specs.Calls.{Call, lost_in}
use Rattle.rq_cast.specs.Output.{sink, CountsLost}
use Rattle.rq_cast.specs.PartSending.{SendsPart, StopsPart}
use Rattle.rq_cast.specs.SentParts.{names_of, SendsStream, StopsStream, halted_calls}
use Rattle.rq_cast.proofs.StreamSteps.{HasSentWhole, has_sent_none, stops_reading, stops_unnumbered, stops_at_part, has_sent_whole, sends_stream, one_more, same_failed}
use Rattle.rq_cast.proofs.stream_sending.send_stream.Goals as goal
use Rattle.rq_cast.proofs.stream_sending.send_stream.Given.{Over}
use Rattle.rq_cast.proofs.stream_sending.send_stream.Goals.{After-send_part}

pub parts-init : goal.parts-init
parts-init g c = record {
  sent = has_sent_none c.args.order.now c.args.key.now c.args.known (g.R.Read.remaining (inner c.args.reader.now)) (g.W.Write.contents (sink c.args.output.now))
      (g.P.Pace.calls c.args.pace.now) _ refl refl c.new.ensures refl refl refl;
  few = omega (arith, c.new.ensures.count);
  reader = refl;
  counts = record { lost_more = omega arith; failed = omega arith };
}

pub returns-in_err-bytes-clause-stops : goal.returns-in_err-bytes-clause-stops
returns-in_err-bytes-clause-stops g c =
    let kept = c.parts.invariant in
    let stream = c.parts.stream in
    let failed = c.in_err-bytes.ensures in
    let stop = c.in_err-bytes.field-0.0 in
    let p = err_from_is_err_and c.from_residual.result c.from_residual.ensures.1 in
    rw (p.1, p.2) (
      stream.lost,
      stops_reading c.args.order.now c.args.key.now c.args.known c.requires.part (g.R.Read.remaining (inner c.args.reader.now)) (g.R.Read.remaining (inner c.parts.reader))
          (g.W.Write.contents (sink c.args.output.now)) (g.W.Write.contents (sink c.parts.output)) (g.P.Pace.calls c.args.pace.now)
          (g.P.Pace.calls c.parts.pace) stream kept.sent
          (g.R.Read.remaining (inner c.read_part.new.reader)) stop failed.within failed.stops,
      inr (failed.counts ∙ (λ i. kept.reader i + same_failed (Vec ℕ Global) ℕ stop i), kept.counts),
    )

module _ (g : Over) (c : After-send_part g) where
  abbrev before : Option (List ℕ)
  before = g.R.Read.remaining (inner c.args.reader.now)

  abbrev mid : Option (List ℕ)
  mid = g.R.Read.remaining (inner c.parts.reader)

  abbrev after : Option (List ℕ)
  after = g.R.Read.remaining (inner c.read_part.new.reader)

  abbrev there : Option (List ℕ)
  there = g.W.Write.contents (sink c.args.output.now)

  abbrev between : Option (List ℕ)
  between = g.W.Write.contents (sink c.parts.output)

  abbrev then : Option (List ℕ)
  then = g.W.Write.contents (sink c.send_part.new.output)

  abbrev told : Option (List Call)
  told = g.P.Pace.calls c.args.pace.now

  abbrev told_mid : Option (List Call)
  told_mid = g.P.Pace.calls c.parts.pace

  abbrev told' : Option (List Call)
  told' = g.P.Pace.calls c.send_part.new.pace

  abbrev is_last : Bool
  is_last = nat_lt c.len.result c.args.order.now.part

  -- the names of the parts that are sent
  abbrev names : List (List ℕ)
  names = names_of c.parts.invariant.sent.has.of c.parts.stream.names.count

  -- the next part is the last one where it has fewer bytes
  short : is_last ≡ nat_lt (length c.in_ok-bytes.bytes.items) c.args.order.now.part
  short =
      let size : c.len.result ≡ length c.in_ok-bytes.bytes.items = search rules in
      ap (λ k. nat_lt k c.args.order.now.part) size

  stops : (more : List Call) (halt : Halt) → StopsPart is_last names c.in_ok-bytes.bytes.items c.parts.stream more told_mid told' between then halt
      → StopsStream c.args.order.now c.args.key.now c.args.known before after there then told told' halt (c.parts.stream.lost + lost_in more)
  stops more halt =
      stops_at_part c.args.order.now c.args.key.now c.args.known c.requires.part before mid after there between told told_mid c.parts.stream c.parts.invariant.sent
      c.in_ok-bytes.bytes.items is_last short c.in_ok-bytes.ensures.reads more then told' halt

  sends : SendsPart is_last names c.in_ok-bytes.bytes.items c.parts.stream c.send_part.new.self told_mid told' between then → is_last ≡ true
      → (behind : Known) → behind.stage ≡ next_stage c.send_part.new.self.known.stage → behind.names.items ≡ c.send_part.new.self.known.names.items
      → SendsStream c.args.order.now c.args.key.now c.args.known before after there then told told'
      (record { parts = c.send_part.new.self.names.count; cells = c.send_part.new.self.cells; lost = c.send_part.new.self.lost }) behind
  sends more ended behind stage same =
      sends_stream c.args.order.now c.args.key.now c.args.known c.requires.part before mid after there between told told_mid c.parts.stream c.parts.invariant.sent
      c.in_ok-bytes.bytes.items is_last short c.in_ok-bytes.ensures.reads c.send_part.new.self then told' more c.send_part.ensures.order c.send_part.ensures.key
      ended _ behind refl refl refl stage same

  goes_on : SendsPart is_last names c.in_ok-bytes.bytes.items c.parts.stream c.send_part.new.self told_mid told' between then → is_last ≡ false
      → HasSentWhole c.args.order.now c.args.key.now c.args.known before after there then told told' c.send_part.new.self
  goes_on more more_to_come =
      has_sent_whole c.args.order.now c.args.key.now c.args.known c.requires.part before mid after there between told told_mid c.parts.stream c.parts.invariant.sent
      c.in_ok-bytes.bytes.items is_last short c.in_ok-bytes.ensures.reads c.send_part.new.self then told' more c.send_part.ensures.order c.send_part.ensures.key
      more_to_come

  counted : SendsPart is_last names c.in_ok-bytes.bytes.items c.parts.stream c.send_part.new.self told_mid told' between then
      → c.send_part.new.self.names.count ≡ c.parts.stream.names.count + 1
  counted more =
      one_more c.args.order.now c.args.key.now c.args.known c.requires.part before mid after there between told told_mid c.parts.stream c.parts.invariant.sent
      c.in_ok-bytes.bytes.items is_last short c.in_ok-bytes.ensures.reads c.send_part.new.self then told' more c.send_part.ensures.order c.send_part.ensures.key

pub returns-in_err-send_part-clause-stops : goal.returns-in_err-send_part-clause-stops
returns-in_err-send_part-clause-stops g c =
    let moved = (goal.at.returns-in_err-send_part-clause-stops g c).After-send_part in
    let kept = c.parts.invariant in
    let halt = c.in_err-send_part.field-0.0 in
    let stopped = c.in_err-send_part.ensures.stops (names g moved) kept.sent.has.named in
    let p = err_from_is_err_and c.from_residual-in_err-send_part.result c.from_residual-in_err-send_part.ensures.1 in
    let counts : CountsLost c.args.output.now c.send_part.new.output (c.parts.stream.lost + lost_in stopped.0) (halted_calls halt) = record {
      lost_more = omega (arith, kept.counts.lost_more, stopped.1.lost_more);
      failed = omega (arith, kept.counts.failed, stopped.1.failed);
    } in
    rw (p.1, p.2) (
      c.parts.stream.lost + lost_in stopped.0,
      stops g moved stopped.0 halt stopped.2,
      inl (omega (arith, kept.reader, c.in_ok-bytes.ensures.counts), counts),
    )

pub returns-then-is_last-clause-sends : goal.returns-then-is_last-clause-sends
returns-then-is_last-clause-sends g c =
    let moved = (goal.at.returns-then-is_last-clause-sends g c).After-send_part in
    let more = c.in_ok-send_part.ensures.sends (names g moved) c.parts.invariant.sent.has.named in
    sends g moved more (lt-ltb c.len.result c.args.order.now.part c.if-is_last.true) c.behind.result c.behind.ensures.stage c.behind.ensures.same

pub parts-preserved : goal.parts-preserved
parts-preserved g c =
    let moved = (goal.at.parts-preserved g c).After-send_part in
    let kept = c.parts.invariant in
    let more = c.in_ok-send_part.ensures.sends (names g moved) kept.sent.has.named in
    record {
      sent = goes_on g moved more (le-ltb c.len.result c.args.order.now.part c.if-is_last.false);
      few = omega (arith, counted g moved more, c.parts-test.true);
      reader = omega (arith, kept.reader, c.in_ok-bytes.ensures.counts);
      counts = record {
        lost_more = omega (arith, kept.counts.lost_more, c.in_ok-send_part.ensures.counts.lost_more, more.lost_more);
        failed = omega (arith, kept.counts.failed, c.in_ok-send_part.ensures.counts.failed, more.lost_more);
      };
    }

pub returns-clause-stops : goal.returns-clause-stops
returns-clause-stops g c =
    let kept = c.parts.invariant in
    let stream = c.parts.stream in
    let all : stream.names.count ≡ 2 ^ 30 = omega (arith, kept.few, c.parts-test.false) in (
      stream.lost,
      stops_unnumbered c.args.order.now c.args.key.now c.args.known c.requires.part (g.R.Read.remaining (inner c.args.reader.now)) (g.R.Read.remaining (inner c.parts.reader))
          (g.W.Write.contents (sink c.args.output.now)) (g.W.Write.contents (sink c.parts.output)) (g.P.Pace.calls c.args.pace.now)
          (g.P.Pace.calls c.parts.pace) stream kept.sent all,
      inl (kept.reader, kept.counts),
    )
