use Rattle.std.proofs.Common.{◌≡◌, ◌<◌, ◌++◌, length, take, subst, arith}
use Rattle.std.proofs.lemmas.List.{length-take}
use Rattle.rq_cells.specs.declared.wanted.Search.{Search}
use Rattle.rq_cells.specs.Wanted.{Wish, wish_of, IsSearch, IsFirstWanted, HasNoWanted}
use Rattle.rq_cells.specs.Search.{left_behind}
use Rattle.rq_guard.proofs.FirstHead.{finds, looks_on}
use Rattle.rq_guard.proofs.reading_stream.first_head.Goals as goal

pub returns-in-Found-clause-first : goal.returns-in-Found-clause-first
returns-in-Found-clause-first g c =
    let w = wish_of c.args.wanted.now in
    let s = c.reading.search in
    let t = c.reading.invariant.looking in
    let piece = take c.in-Ok.n c.read.new.buf in
    let some : 0 < length piece = omega (arith, length-take c.in-Ok.n c.read.new.buf, c.in-Ok.ensures.bound, c.if-n-eq0.false) in
    let found = subst (IsSearch s.wish (s.bytes ++ piece)) c.in-Found.is c.in_ok-head.ensures.search in
    let first = subst (λ (x : Wish). IsFirstWanted x (s.bytes ++ piece) c.in-Found.at c.in-Found.head) t.wish found.0 in
    finds w (g.R.Read.remaining c.args.reader.now.inner) (g.R.Read.remaining c.reading.reader.inner) (g.R.Read.remaining c.read.new.self.inner)
    c.reading._reads s t piece some c.in-Ok.ensures.bytes.0 c.in-Found.at c.in-Found.head first

pub reading-preserved : goal.reading-preserved
reading-preserved g c =
    let w = wish_of c.args.wanted.now in
    let s = c.reading.search in
    let t = c.reading.invariant.looking in
    let piece = take c.in-Ok.n c.read.new.buf in
    let some : 0 < length piece = omega (arith, length-take c.in-Ok.n c.read.new.buf, c.in-Ok.ensures.bound, c.if-n-eq0.false) in
    let none = subst (IsSearch s.wish (s.bytes ++ piece)) c.in-NotYet.is c.in_ok-head.ensures.search in
    let no = subst (λ (x : Wish). HasNoWanted x (s.bytes ++ piece) c.in-NotYet.from c.in-NotYet.before c.in-NotYet.all) t.wish none in
    let left = subst (λ (x : Search). c.feed.new.self ≡ left_behind s piece x) c.in-NotYet.is c.in_ok-head.ensures.left in
    record {
      looking = looks_on w (g.R.Read.remaining c.args.reader.now.inner) (g.R.Read.remaining c.reading.reader.inner) (g.R.Read.remaining c.read.new.self.inner)
          c.reading._reads s t piece some c.in-Ok.ensures.bytes.0 c.in-NotYet.from c.in-NotYet.before c.in-NotYet.all c.feed.new.self no left;
      count = omega (arith, c.in-Ok.ensures.ok, c.reading.invariant.count);
    }
