-- What the check leaves to show of `columns::ColumnOrder::exchange`.
use Rattle.std.proofs.Common.{◌≡◌, ◌<◌, length, set, ap, subst}
use Rattle.std.proofs.lemmas.List.{get_or_read}
use Rattle.rq_algebra.specs.Systems.{at}
use Rattle.rq_peeling.specs.ColumnState.{ColumnState, ExchangesColumns}
use Rattle.rq_peeling.proofs.ColumnLaws.{exchanged_state, exchanges}
use Rattle.rq_peeling.proofs.columns.ColumnOrder.exchange.Goals as goal

module _ (c : goal.After-self-4-1) where
  abbrev start : ColumnState
  start = record { order = c.self.inside.order.items; places = c.self.inside.places.items; pivots = c.self.inside.pivots; end = c.self.inside.end }

  width : length c.self.inside.order.items ≡ length c.args.self.now.order
  width = ap (λ (s : ColumnState). length s.order) c.self.view_is

  in_p : c.args.p < length c.self.inside.order.items
  in_p = rw width c.requires.first

  in_q : c.args.q < length c.self.inside.order.items
  in_q = rw width c.requires.second

  first : c.index-first.result.now ≡ at c.self.inside.order.items c.args.p
  first = get_or_read c.self.inside.order.items _ _ in_p c.index-first.ensures 0

  second : c.index-second.result.now ≡ at c.self.inside.order.items c.args.q
  second = get_or_read c.self.inside.order.items _ _ in_q c.index-second.ensures 0

pub invariant_of-self : goal.invariant_of-self
invariant_of-self c = exchanged_state (start c) c.self.invariant c.args.p c.args.q _ _ (in_p c) (in_q c) (first c) (second c)

pub returns : goal.returns
returns c =
    let start = start c in
    subst (λ (s : ColumnState). ExchangesColumns c.args.p c.args.q s (record start { order = set (set start.order c.args.p c.index-second.result.now) c.args.q c.index-first.result.now; places = set (set start.places c.index-first.result.now c.args.q) c.index-second.result.now c.args.p })) c.self.view_is
    (exchanges start c.self.invariant c.args.p c.args.q _ _ (in_p c) (in_q c) (first c) (second c))
