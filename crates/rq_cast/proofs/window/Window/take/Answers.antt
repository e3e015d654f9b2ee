use Rattle.std.proofs.Common.{refl, sym, ◌∙◌, arith}
use Rattle.std.proofs.lemmas.Bool.{true≢false}
use Rattle.std.proofs.lemmas.Result.{on_ok_weaker}
use Rattle.rq_cast.proofs.Dropped.{counts_ended, counts_late, counts_early}
use Rattle.rq_cast.proofs.WindowSteps.{taken_past}
use Rattle.rq_cast.proofs.window.Window.take.Goals as goal

pub returns-then-self-clause-takes : goal.returns-then-self-clause-takes
returns-then-self-clause-takes c = λ stream width came given has.
    let old = c.args.self.now in
    let cell = c.args.found.cell in
    taken_past c.args.table.now stream width came given cell old old has c.requires.sound refl refl refl refl refl
    (counts_ended c.args.table.now width came has.parts old has.drops cell old refl refl c.if-self.true)
    (λ open_still k within. absurd (true≢false (sym c.if-self.true ∙ open_still)))

pub returns-then-index-self-clause-takes : goal.returns-then-index-self-clause-takes
returns-then-index-self-clause-takes c = λ stream width came given has.
    let old = c.args.self.now in
    let cell = c.args.found.cell in
    taken_past c.args.table.now stream width came given cell old _ has c.requires.sound refl refl refl refl refl
    (counts_late c.args.table.now width came has.parts old has.drops cell _ c.if-self.false c.saturating_add-self.ensures refl c.if-index-self.true)
    (λ open_still k within same. absurd (omega (arith, same, c.if-index-self.true)))

pub returns-then-place-len-clause-takes : goal.returns-then-place-len-clause-takes
returns-then-place-len-clause-takes c = λ stream width came given has.
    let old = c.args.self.now in
    let cell = c.args.found.cell in
    let wide = (has.are_open c.if-self.false).wide in
    taken_past c.args.table.now stream width came given cell old _ has c.requires.sound refl refl refl refl refl
    (counts_early c.args.table.now width came has.parts old has.drops cell _ c.if-self.false refl c.saturating_add-self-then-place-len.ensures
    (omega (arith, c.if-index-self.false, c.if-place-len.true, c.len.ensures, wide)))
    (λ open_still k within same. absurd (omega (arith, same, within, c.if-index-self.false, c.if-place-len.true, c.len.ensures)))

pub give-requires-clause-here : goal.give-requires-clause-here
give-requires-clause-here c = omega (arith, c.if-index-self.false)

pub returns-clause-takes : goal.returns-clause-takes
returns-clause-takes c =
    on_ok_weaker c.settle_all.result (λ settles stream width came given has.
    settles stream width came c.args.found.cell given (c.in_ok-give.ensures.gives stream width came given has)) c.settle_all.ensures.settles
