use Rattle.std.proofs.Common.{◌≡◌, ℕ, ◌+◌, ◌^◌, Bool, true, false, Vec, Global, List, Option, length, refl, ap, arith, rules}
use Rattle.std.specs.Prelude.{nat_lt}
use Rattle.std.proofs.lemmas.Bool.{lt-ltb, le-ltb}
use Rattle.std.proofs.lemmas.Result.{err_from_is_err_and}
use Rattle.rq_streams.specs.declared.run.Stop.{Stop}
use Rattle.rq_streams.specs.Counted.{inner}
use Rattle.rq_cast.specs.Output.{sink}
use Rattle.rq_guard.specs.Protecting.{guarded_names, Protects, StopsProtecting}
use Rattle.rq_guard.specs.ProtectingParts.{GuardsPart, StopsPart}
use Rattle.rq_guard.proofs.GuardCells.{reader_stopped, writer_stopped}
use Rattle.rq_guard.proofs.GuardSteps.{HasGuardedWhole, has_guarded_none, stops_reading, stops_unnumbered, stops_at_part, has_guarded_whole, protects, one_more}
use Rattle.rq_guard.proofs.protecting.protect.Goals as goal
use Rattle.rq_guard.proofs.protecting.protect.Given.{Over}
use Rattle.rq_guard.proofs.protecting.protect.Goals.{After-guard_part}

pub parts-init : goal.parts-init
parts-init g c = record {
  made = has_guarded_none c.args.order.now c.args.key.now (g.R.Read.remaining (inner c.args.reader.now)) (g.W.Write.contents (sink c.args.output.now)) _ refl refl
      c.new.ensures refl;
  few = omega (arith, c.new.ensures.count);
  reader = refl;
  counts = record { lost_more = omega arith; failed = omega arith };
}

pub returns-in_err-bytes-clause-stops : goal.returns-in_err-bytes-clause-stops
returns-in_err-bytes-clause-stops g c =
    let failed = c.in_err-bytes.ensures in
    let p = err_from_is_err_and c.from_residual.result c.from_residual.ensures.1 in
    rw (p.1, p.2) (stops_reading c.args.order.now c.args.key.now c.requires.part (g.R.Read.remaining (inner c.args.reader.now)) (g.R.Read.remaining (inner c.parts.reader))
    (g.W.Write.contents (sink c.args.output.now)) (g.W.Write.contents (sink c.parts.output)) c.parts.file c.parts.invariant.made
    (g.R.Read.remaining (inner c.read_part.new.reader)) c.in_err-bytes.field-0.0 failed.within failed.stops)

pub returns-in_err-bytes-clause-failed : goal.returns-in_err-bytes-clause-failed
returns-in_err-bytes-clause-failed g c =
    let kept = c.parts.invariant in
    let p = err_from_is_err_and c.from_residual.result c.from_residual.ensures.1 in
    rw (p.1, p.2) (reader_stopped (Vec ℕ Global) c.args.reader.now c.parts.reader c.read_part.new.reader c.args.output.now c.parts.output c.in_err-bytes.field-0.0
    kept.reader kept.counts c.in_err-bytes.ensures.counts)

module _ (g : Over) (c : After-guard_part g) where
  abbrev before : Option (List ℕ)
  before = g.R.Read.remaining (inner c.args.reader.now)

  abbrev mid : Option (List ℕ)
  mid = g.R.Read.remaining (inner c.parts.reader)

  abbrev after : Option (List ℕ)
  after = g.R.Read.remaining (inner c.read_part.new.reader)

  abbrev there : Option (List ℕ)
  there = g.W.Write.contents (sink c.args.output.now)

  abbrev between : Option (List ℕ)
  between = g.W.Write.contents (sink c.parts.output)

  abbrev then : Option (List ℕ)
  then = g.W.Write.contents (sink c.guard_part.new.output)

  abbrev is_last : Bool
  is_last = nat_lt c.len.result c.args.order.now.part

  -- the names of the parts that are guarded
  abbrev names : List (List ℕ)
  names = guarded_names c.parts.invariant.made.has.of c.parts.file.names.count

  -- the next part is the last one where it has fewer bytes
  short : is_last ≡ nat_lt (length c.in_ok-bytes.bytes.items) c.args.order.now.part
  short =
      let size : c.len.result ≡ length c.in_ok-bytes.bytes.items = search rules in
      ap (λ k. nat_lt k c.args.order.now.part) size

  stops : (stop : Stop) → StopsPart is_last names c.in_ok-bytes.bytes.items c.parts.file between then stop
      → StopsProtecting c.args.order.now c.args.key.now before after there then stop
  stops stop =
      stops_at_part c.args.order.now c.args.key.now c.requires.part before mid after there between c.parts.file c.parts.invariant.made
      c.in_ok-bytes.bytes.items is_last short c.in_ok-bytes.ensures.reads then stop

  ends : GuardsPart is_last names c.in_ok-bytes.bytes.items c.parts.file c.guard_part.new.self between then → is_last ≡ true
      → Protects c.args.order.now c.args.key.now before after there then
      (record { parts = c.guard_part.new.self.names.count; cells = c.guard_part.new.self.cells })
  ends more ended =
      protects c.args.order.now c.args.key.now c.requires.part before mid after there between c.parts.file c.parts.invariant.made
      c.in_ok-bytes.bytes.items is_last short c.in_ok-bytes.ensures.reads c.guard_part.new.self then more c.guard_part.ensures.order c.guard_part.ensures.key
      ended _ refl refl

  goes_on : GuardsPart is_last names c.in_ok-bytes.bytes.items c.parts.file c.guard_part.new.self between then → is_last ≡ false
      → HasGuardedWhole c.args.order.now c.args.key.now before after there then c.guard_part.new.self
  goes_on more more_to_come =
      has_guarded_whole c.args.order.now c.args.key.now c.requires.part before mid after there between c.parts.file c.parts.invariant.made
      c.in_ok-bytes.bytes.items is_last short c.in_ok-bytes.ensures.reads c.guard_part.new.self then more c.guard_part.ensures.order c.guard_part.ensures.key
      more_to_come

  counted : GuardsPart is_last names c.in_ok-bytes.bytes.items c.parts.file c.guard_part.new.self between then
      → c.guard_part.new.self.names.count ≡ c.parts.file.names.count + 1
  counted more =
      one_more c.args.order.now c.args.key.now c.requires.part before mid after there between c.parts.file c.parts.invariant.made
      c.in_ok-bytes.bytes.items is_last short c.in_ok-bytes.ensures.reads c.guard_part.new.self then more c.guard_part.ensures.order c.guard_part.ensures.key

pub returns-in_err-guard_part-clause-stops : goal.returns-in_err-guard_part-clause-stops
returns-in_err-guard_part-clause-stops g c =
    let moved = (goal.at.returns-in_err-guard_part-clause-stops g c).After-guard_part in
    let p = err_from_is_err_and c.from_residual-in_err-guard_part.result c.from_residual-in_err-guard_part.ensures.1 in
    rw (p.1, p.2) (stops g moved c.in_err-guard_part.field-0.0 (c.in_err-guard_part.ensures.stops (names g moved) c.parts.invariant.made.has.named))

pub returns-in_err-guard_part-clause-failed : goal.returns-in_err-guard_part-clause-failed
returns-in_err-guard_part-clause-failed g c =
    let kept = c.parts.invariant in
    let p = err_from_is_err_and c.from_residual-in_err-guard_part.result c.from_residual-in_err-guard_part.ensures.1 in
    rw (p.1, p.2) (writer_stopped c.args.reader.now c.parts.reader c.read_part.new.reader c.args.output.now c.parts.output c.guard_part.new.output
    c.in_err-guard_part.field-0.0 kept.reader c.in_ok-bytes.ensures.counts kept.counts c.in_err-guard_part.ensures.failed)

pub returns-then-is_last-clause-protects : goal.returns-then-is_last-clause-protects
returns-then-is_last-clause-protects g c =
    let moved = (goal.at.returns-then-is_last-clause-protects g c).After-guard_part in
    let more = c.in_ok-guard_part.ensures.guards (names g moved) c.parts.invariant.made.has.named in
    ends g moved more (lt-ltb c.len.result c.args.order.now.part c.if-is_last.true)

pub parts-preserved : goal.parts-preserved
parts-preserved g c =
    let moved = (goal.at.parts-preserved g c).After-guard_part in
    let kept = c.parts.invariant in
    let more = c.in_ok-guard_part.ensures.guards (names g moved) kept.made.has.named in
    record {
      made = goes_on g moved more (le-ltb c.len.result c.args.order.now.part c.if-is_last.false);
      few = omega (arith, counted g moved more, c.parts-test.true);
      reader = omega (arith, kept.reader, c.in_ok-bytes.ensures.counts);
      counts = record {
        lost_more = omega (arith, kept.counts.lost_more, c.in_ok-guard_part.ensures.counts.lost_more);
        failed = omega (arith, kept.counts.failed, c.in_ok-guard_part.ensures.counts.failed);
      };
    }

pub returns-clause-stops : goal.returns-clause-stops
returns-clause-stops g c =
    let all : c.parts.file.names.count ≡ 2 ^ 30 = omega (arith, c.parts.invariant.few, c.parts-test.false) in
    stops_unnumbered c.args.order.now c.args.key.now c.requires.part (g.R.Read.remaining (inner c.args.reader.now)) (g.R.Read.remaining (inner c.parts.reader))
    (g.W.Write.contents (sink c.args.output.now)) (g.W.Write.contents (sink c.parts.output)) c.parts.file c.parts.invariant.made all
