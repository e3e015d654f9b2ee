use Rattle.std.proofs.Common.{[], refl, subst, arith, inl, inr, Option, Vec, Global}
use Rattle.std.proofs.KnownBytes.{Consumes-nil}
use Rattle.rq_cells.specs.declared.cell.FoundCell.{FoundCell}
use Rattle.rq_cells.specs.Found.{Source}
use Rattle.rq_guard.specs.Reading.{HasPassed, ReadsOn}
use Rattle.rq_guard.proofs.ListedParts.{receiving_ends, receiving_more}
use Rattle.rq_guard.proofs.reading_lists.receive_lists.Goals as goal

pub reading-init : goal.reading-init
reading-init g c = record {
  receiving = record {
    past = [];
    came = [];
    read = Consumes-nil (g.R.Read.remaining c.args.reader.now.inner);
    many = omega arith;
    passed = subst (λ (s : Source). HasPassed s [] [] c.in_ok-pass.pass) (c.in_ok-list_like.ensures.like c.args.by.now.key.now) c.in_ok-pass.ensures.passed;
    has = c.new-lists.ensures.lists c.args.by.now.table.now;
  };
  sound = c.new-lists.ensures.sound c.args.by.now.table.now;
  count = refl;
}

pub returns-in_default-clause-receives : goal.returns-in_default-clause-receives
returns-in_default-clause-receives g c =
    let before = g.R.Read.remaining c.args.reader.now.inner in
    let mid = g.R.Read.remaining c.reading.reader.inner in
    let after = g.R.Read.remaining c.read.new.reader.inner in
    let ended = subst (λ (o : Option (Vec FoundCell Global)). ReadsOn mid after c.reading.pass o c.read.new.self) c.in_default.is c.in_ok-found.ensures.reads in
    receiving_ends c.args.by.now.table.now c.args.by.now.key.now c.args.stream.now before mid after c.reading._reads c.reading.pass c.reading.lists
    c.reading.invariant.receiving ended.0 (inl ended.1)

pub reading-preserved : goal.reading-preserved
reading-preserved g c =
    let before = g.R.Read.remaining c.args.reader.now.inner in
    let mid = g.R.Read.remaining c.reading.reader.inner in
    let after = g.R.Read.remaining c.read.new.reader.inner in
    let piece = subst (λ (o : Option (Vec FoundCell Global)). ReadsOn mid after c.reading.pass o c.read.new.self) c.in-Some.is c.in_ok-found.ensures.reads in
    record {
      receiving = receiving_more c.args.by.now.table.now c.args.by.now.key.now c.args.stream.now before mid after c.reading._reads c.reading.pass c.reading.lists
          c.reading.invariant.receiving c.in-Some.found.items c.read.new.self c.take_all.new.self piece c.in_ok-take_all.ensures.takes;
      sound = c.in_ok-take_all.ensures.sound;
      count = omega (arith, c.in_ok-found.ensures.counts, c.reading.invariant.count);
    }

pub returns-clause-receives : goal.returns-clause-receives
returns-clause-receives g c =
    let before = g.R.Read.remaining c.args.reader.now.inner in
    let mid = g.R.Read.remaining c.reading.reader.inner in
    receiving_ends c.args.by.now.table.now c.args.by.now.key.now c.args.stream.now before mid mid c.reading._reads c.reading.pass c.reading.lists
    c.reading.invariant.receiving (Consumes-nil mid) (inr (omega (arith, c.reading-test.false, c.reading.auto._reads-end)))
