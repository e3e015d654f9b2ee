-- What the check leaves to show of `columns::ColumnOrder::inactivate`.
use Rattle.std.proofs.Common.{◌≡◌, ◌-◌, ◌+◌, ap, arith}
use Rattle.std.proofs.lemmas.List.{get_or_read}
use Rattle.rq_algebra.specs.Systems.{at}
use Rattle.rq_peeling.specs.ColumnState.{ColumnState}
use Rattle.rq_peeling.specs.contracts.columns.ColumnOrder.{the_view}
use Rattle.rq_peeling.proofs.ColumnLaws.{state_was, place_was, ends_by_inactivation}
use Rattle.rq_peeling.proofs.columns.ColumnOrder.inactivate.Goals as goal

module _ (c : goal.After-self-1) where
  here : at c.args.self.now.places c.args.column ≡ c.index-place.result.now
  here = place_was (the_view c.self.inside) c.args.self.now c.self.view_is c.self.invariant c.args.column _ c.requires.column (λ l. get_or_read _ _ _ l c.index-place.ensures 0)

pub returns-clause-ended : goal.returns-clause-ended
returns-clause-ended c =
    let state = state_was (the_view c.self.inside) c.args.self.now c.self.view_is c.self.invariant in
    let one_more : c.args.self.now.end ≡ c.self.inside.end - 1 + 1 = omega (arith, ap (λ (s : ColumnState). s.end) c.self.view_is, c.requires.active) in
    ends_by_inactivation c.args.column c.index-place.result.now (c.self.inside.end - 1) c.args.self.now c.exchange.new.self _ state c.requires.column c.requires.active (here c) c.exchange.ensures (omega (arith, one_more, c.requires.active)) (omega (arith, one_more))
    one_more (ap (λ (s : ColumnState). record s { end = s.end - 1 }) c.self-2.view_is)
