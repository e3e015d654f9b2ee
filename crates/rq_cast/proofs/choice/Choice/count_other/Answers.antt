use Rattle.std.proofs.Common.{refl, sym, ap, ◌∙◌, inl, inr}
use Rattle.std.specs.Prelude.{is_err}
use Rattle.std.proofs.lemmas.Bool.{true≢false}
use Rattle.rq_cast.specs.Taken.{IsTakenHead}
use Rattle.rq_cast.proofs.ChosenHeads.{not_refused, heads_still, heads_behind}
use Rattle.rq_cast.proofs.choice.Choice.count_other.Goals as goal

pub returns-then-is_err-clause-heads : goal.returns-then-is_err-clause-heads
returns-then-is_err-clause-heads c = heads_still c.args.table.now c.args.self.now c.args.head.now

pub returns-then-is_err-clause-counts : goal.returns-then-is_err-clause-counts
returns-then-is_err-clause-counts c =
    inl (λ taken. true≢false (sym c.if-is_err.true ∙ c.is_err.ensures.value ∙ ap is_err (c.check.ensures.refused ∙ taken)), refl, refl)

pub returns-clause-counts : goal.returns-clause-counts
returns-clause-counts c =
    let taken : IsTakenHead c.args.table.now c.args.head.now =
    sym c.check.ensures.refused ∙ not_refused c.check.result (sym c.is_err.ensures.value ∙ c.if-is_err.false) in
    inr (taken, c.next_rival-self.result, c.next_rival-self.ensures.next, c.give_way.ensures.takes_place)

pub returns-clause-heads : goal.returns-clause-heads
returns-clause-heads c =
    let taken : IsTakenHead c.args.table.now c.args.head.now =
    sym c.check.ensures.refused ∙ not_refused c.check.result (sym c.is_err.ensures.value ∙ c.if-is_err.false) in
    heads_behind c.args.table.now c.args.self.now c.args.head.now taken c.next_rival-self.result c.next_rival-self.ensures.heads c.give_way.new.self
    c.give_way.result c.give_way.ensures.same c.give_way.ensures.changed c.give_way.ensures.rival
