use Rattle.std.proofs.Common.{◌≡◌, [], sym, subst, ◌∙◌, Result, Ok, Err, arith}
use Rattle.std.specs.Prelude.{IfOk, OnOk}
use Rattle.std.proofs.lemmas.Bool.{true≢false}
use Rattle.rq_guard.specs.Lists.{listed_of}
use Rattle.rq_guard.specs.Mending.{TakesMore}
use Rattle.rq_guard.specs.Reading.{names_listed, cells_of}
use Rattle.rq_guard.proofs.TakenCells.{ready_by, none_by, mends_by_whole, mends_by_both}
use Rattle.rq_guard.proofs.mending_part.mend_part.Goals as goal
use Rattle.rq_guard.proofs.mending_part.mend_part.Goals.{then-not-is_empty-via-then-not-is_empty, then-not-is_empty-via-else-not-is_empty+then-has_ended}

if_ok_by : {T E : Type 0} (r : Result T E) (P Q : T → Type 0) → ((v : T) → P v → Q v) → IfOk r P → IfOk r Q
if_ok_by (Ok v) P Q by h = by v h
if_ok_by (Err e) P Q by h = tt

pub returns-then-not-is_empty-clause-mends : goal.returns-then-not-is_empty-clause-mends
returns-then-not-is_empty-clause-mends g c =
    mends_by_whole c.args.by.now.table.now c.args.by.now.key.now (names_listed c.args.before.now) (listed_of c.args.list.now) (g.F.Read.remaining c.args.file.now.inner)
    (g.F.Read.remaining c.read_whole.new.file.inner) c.args.mending.now (cells_of c.in_ok-whole.whole.items) c.in_ok-whole.ensures.whole
    (g.G.Read.remaining c.args.guard.now.inner) c.in_ok-bytes.bytes.items c.take.new.self c.in_ok-bytes.ensures.takes
    (λ none open_still. elim c.then-not-is_empty.branch [
      | then-not-is_empty-via-then-not-is_empty w ↦ ready_by c.in_ok-bytes.bytes c.is_empty.result c.is_empty.ensures w.if-not-is_empty.true none
      | then-not-is_empty-via-else-not-is_empty+then-has_ended w ↦ true≢false (sym w.if-has_ended.true ∙ w.has_ended.ensures ∙ open_still)
    ])

pub returns-clause-mends : goal.returns-clause-mends
returns-clause-mends g c =
    let none = none_by c.in_ok-bytes.bytes c.is_empty.result c.is_empty.ensures c.if-not-is_empty.false in
    let whole = cells_of c.in_ok-whole.whole.items in
    let before : TakesMore c.args.by.now.table.now c.args.mending.now whole [] c.take.new.self =
    subst (λ xs. TakesMore c.args.by.now.table.now c.args.mending.now whole xs c.take.new.self) none c.in_ok-bytes.ensures.takes in
    if_ok_by c.take_from.result _ _
    (λ v from. mends_by_both c.args.by.now.table.now c.args.by.now.key.now (names_listed c.args.before.now) (listed_of c.args.list.now) (g.F.Read.remaining c.args.file.now.inner)
    (g.F.Read.remaining c.read_whole.new.file.inner) c.args.mending.now whole c.in_ok-whole.ensures.whole
    (g.G.Read.remaining c.args.guard.now.inner) (g.G.Read.remaining c.take_from.new.reader.inner) v.items c.take.new.self c.take_from.new.self before from)
    c.take_from.ensures.takes

on_ok_always : {T E : Type 0} (r : Result T E) (P : Type 0) → P → OnOk r P
on_ok_always (Ok v) P p = p
on_ok_always (Err e) P p = tt

pub returns-clause-reads : goal.returns-clause-reads
returns-clause-reads g c =
    let same : c.read_whole.new.file.failed ≡ c.args.file.now.failed = omega (arith, c.in_ok-whole.ensures.counts) in
    on_ok_always c.take_from.result _ same
