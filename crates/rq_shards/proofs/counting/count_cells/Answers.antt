use Rattle.std.proofs.Common.{◌≡◌, ◌+◌, ◌-◌, ◌^◌, length, refl, ap, subst, ◌∙◌, arith, rules, inl, inr, Option, Vec, Global}
use Rattle.std.specs.Prelude.{min}
use Rattle.std.proofs.KnownBytes.{Consumes-nil}
use Rattle.rq_cells.specs.declared.cell.FoundCell.{FoundCell}
use Rattle.rq_cells.specs.Found.{source_of}
use Rattle.rq_guard.specs.Reading.{ReadsOn}
use Rattle.rq_shards.proofs.CountedCells.{counts_cells, has_counted_more, has_counted_none}
use Rattle.rq_shards.proofs.counting.count_cells.Goals as goal

pub reading-init : goal.reading-init
reading-init g c = record {
  counted = has_counted_none (source_of c.args.key.now c.args.head.now) (g.R.Read.remaining c.args.reader.now.inner) c.in_ok-pass.pass c.in_ok-pass.ensures.passed;
  failed = refl;
}

pub reading-preserved : goal.reading-preserved
reading-preserved g c =
    let s = source_of c.args.key.now c.args.head.now in
    let before = g.R.Read.remaining c.args.reader.now.inner in
    let mid = g.R.Read.remaining c.reading.reader.inner in
    let after = g.R.Read.remaining c.read.new.reader.inner in
    let piece = subst (λ (o : Option (Vec FoundCell Global)). ReadsOn mid after c.reading.pass o c.read.new.self) c.in-Some.is c.in_ok-found.ensures.reads in
    let size : c.len.result ≡ length c.in-Some.found.items = search rules in
    record {
      counted = has_counted_more s before mid after c.reading._reads c.reading.pass c.reading.cells c.reading.invariant.counted c.in-Some.found.items
          c.read.new.self c.saturating_add-cells.result piece
          (c.saturating_add-cells.ensures ∙ ap (λ n. min (c.reading.cells + n) (2 ^ 64 - 1)) size);
      failed = omega (arith, c.in_ok-found.ensures.counts, c.reading.invariant.failed);
    }

pub returns-clause-cells : goal.returns-clause-cells
returns-clause-cells g c =
    let mid = g.R.Read.remaining c.reading.reader.inner in
    counts_cells (source_of c.args.key.now c.args.head.now) (g.R.Read.remaining c.args.reader.now.inner) mid mid c.reading._reads c.reading.pass c.reading.cells
    c.reading.invariant.counted (Consumes-nil mid) (inr (omega (arith, c.reading-test.false, c.reading.auto._reads-end)))

pub returns-in_default-clause-cells : goal.returns-in_default-clause-cells
returns-in_default-clause-cells g c =
    let mid = g.R.Read.remaining c.reading.reader.inner in
    let after = g.R.Read.remaining c.read.new.reader.inner in
    let ended = subst (λ (o : Option (Vec FoundCell Global)). ReadsOn mid after c.reading.pass o c.read.new.self) c.in_default.is c.in_ok-found.ensures.reads in
    counts_cells (source_of c.args.key.now c.args.head.now) (g.R.Read.remaining c.args.reader.now.inner) mid after c.reading._reads c.reading.pass
    c.reading.cells c.reading.invariant.counted ended.0 (inl ended.1)
