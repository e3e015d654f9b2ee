use Rattle.std.proofs.Common.{sym, subst, ◌∙◌, arith, inl, inr, Option, Vec, Global}
use Rattle.std.proofs.lemmas.Bool.{true≢false}
use Rattle.rq_cells.specs.declared.cell.FoundCell.{FoundCell}
use Rattle.rq_guard.specs.Reading.{ReadsOn}
use Rattle.std.proofs.KnownBytes.{Consumes-nil}
use Rattle.rq_guard.proofs.TakenCells.{taking_ends, taking_stops, taking_more, ready_by, none_by}
use Rattle.rq_guard.proofs.mending.Mending.take_from.Goals as goal
use Rattle.rq_guard.proofs.mending.Mending.take_from.Goals.{then-not-is_empty-via-then-not-is_empty, then-not-is_empty-via-else-not-is_empty+then-has_ended}

pub returns-in_default-clause-takes : goal.returns-in_default-clause-takes
returns-in_default-clause-takes g c =
    let before = g.R.Read.remaining c.args.reader.now.inner in
    let mid = g.R.Read.remaining c.reading.reader.inner in
    let after = g.R.Read.remaining c.read.new.reader.inner in
    let ended = subst (λ (o : Option (Vec FoundCell Global)). ReadsOn mid after c.reading.pass o c.read.new.self) c.in_default.is c.in_ok-found.ensures.reads in
    taking_ends c.args.by.now.table.now c.args.by.now.key.now c.args.head.now before mid after c.reading._reads c.reading.pass c.args.self.now c.reading.self
    c.reading.invariant.taking c.new-in_default.result.items c.new-in_default.ensures.items ended.0 (inl ended.1)

pub returns-then-not-is_empty-clause-takes : goal.returns-then-not-is_empty-clause-takes
returns-then-not-is_empty-clause-takes g c =
    let before = g.R.Read.remaining c.args.reader.now.inner in
    let mid = g.R.Read.remaining c.reading.reader.inner in
    let after = g.R.Read.remaining c.read.new.reader.inner in
    let piece = subst (λ (o : Option (Vec FoundCell Global)). ReadsOn mid after c.reading.pass o c.read.new.self) c.in-Some.is c.in_ok-found.ensures.reads in
    taking_stops c.args.by.now.table.now c.args.by.now.key.now c.args.head.now before mid after c.reading._reads c.reading.pass c.args.self.now c.reading.self
    c.reading.invariant.taking c.in-Some.found.items _ c.read.new.self c.in_ok-bytes.bytes.items c.take.new.self piece c.in_ok-cells.ensures.cells
    c.in_ok-bytes.ensures.takes
    (λ none open_still. elim c.then-not-is_empty.branch [
      | then-not-is_empty-via-then-not-is_empty w ↦ ready_by c.in_ok-bytes.bytes c.is_empty.result c.is_empty.ensures w.if-not-is_empty.true none
      | then-not-is_empty-via-else-not-is_empty+then-has_ended w ↦ true≢false (sym w.if-has_ended.true ∙ w.has_ended.ensures ∙ open_still)
    ])

pub reading-preserved : goal.reading-preserved
reading-preserved g c =
    let before = g.R.Read.remaining c.args.reader.now.inner in
    let mid = g.R.Read.remaining c.reading.reader.inner in
    let after = g.R.Read.remaining c.read.new.reader.inner in
    let piece = subst (λ (o : Option (Vec FoundCell Global)). ReadsOn mid after c.reading.pass o c.read.new.self) c.in-Some.is c.in_ok-found.ensures.reads in
    record {
      taking = taking_more c.args.by.now.table.now c.args.by.now.key.now c.args.head.now before mid after c.reading._reads c.reading.pass c.args.self.now c.reading.self
          c.reading.invariant.taking c.in-Some.found.items _ c.read.new.self c.in_ok-bytes.bytes.items c.take.new.self piece c.in_ok-cells.ensures.cells
          c.in_ok-bytes.ensures.takes
          (none_by c.in_ok-bytes.bytes c.is_empty.result c.is_empty.ensures c.if-not-is_empty.false);
      sound = c.in_ok-bytes.ensures.sound;
      count = omega (arith, c.in_ok-found.ensures.counts, c.reading.invariant.count);
    }

pub returns-clause-takes : goal.returns-clause-takes
returns-clause-takes g c =
    let before = g.R.Read.remaining c.args.reader.now.inner in
    let mid = g.R.Read.remaining c.reading.reader.inner in
    taking_ends c.args.by.now.table.now c.args.by.now.key.now c.args.head.now before mid mid c.reading._reads c.reading.pass c.args.self.now c.reading.self
    c.reading.invariant.taking c.new-2.result.items c.new-2.ensures.items (Consumes-nil mid) (inr (omega (arith, c.reading-test.false, c.reading.auto._reads-end)))
