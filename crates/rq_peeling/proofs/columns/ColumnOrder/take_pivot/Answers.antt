-- What the check leaves to show of `columns::ColumnOrder::take_pivot`.
use Rattle.std.proofs.Common.{◌≡◌, ℕ, ◌+◌, List, sym, ap, ◌∙◌, arith}
use Rattle.std.proofs.lemmas.List.{get_or_read}
use Rattle.rq_algebra.specs.Systems.{at}
use Rattle.rq_algebra.proofs.Places.{exchange_right}
use Rattle.rq_peeling.specs.ColumnState.{ColumnState}
use Rattle.rq_peeling.specs.contracts.columns.ColumnOrder.{the_view}
use Rattle.rq_peeling.proofs.ColumnLaws.{state_was, place_was, ends_by_pivot}
use Rattle.rq_peeling.proofs.columns.ColumnOrder.take_pivot.Goals as goal

module _ (c : goal.After-self-1) where
  here : at c.args.self.now.places c.args.column ≡ c.index-place.result.now
  here = place_was (the_view c.self.inside) c.args.self.now c.self.view_is c.self.invariant c.args.column _ c.requires.column (λ l. get_or_read _ _ _ l c.index-place.ensures 0)

pub returns-clause-ended : goal.returns-clause-ended
returns-clause-ended c =
    let next = ap (λ (s : ColumnState). s.pivots) c.self.view_is in
    let state = state_was (the_view c.self.inside) c.args.self.now c.self.view_is c.self.invariant in
    ends_by_pivot c.args.column c.index-place.result.now c.self.inside.pivots c.args.self.now c.exchange.new.self _ state c.requires.column c.requires.active (here c) c.exchange.ensures (omega (arith, next)) (omega (arith, next, c.requires.active))
    (sym next) (ap (λ (s : ColumnState). record s { pivots = s.pivots + 1 }) c.self-2.view_is)

pub returns-clause-here : goal.returns-clause-here
returns-clause-here c =
    let next = ap (λ (s : ColumnState). s.pivots) c.self.view_is in
    let state = state_was (the_view c.self.inside) c.args.self.now c.self.view_is c.self.invariant in
    let old = c.args.self.now in
    let order : c.self-2.inside.order.items ≡ c.exchange.new.self.order = ap (λ (s : ColumnState). s.order) c.self-2.view_is in
    let place = state.columns.placed c.args.column c.requires.column in
    ap (λ (l : List ℕ). at l old.pivots) order
    ∙ c.exchange.ensures.order old.pivots (omega (arith, c.requires.active, state.within))
    ∙ ap (at old.order) (exchange_right c.index-place.result.now c.self.inside.pivots old.pivots (sym next) ∙ sym (here c))
    ∙ place.1
