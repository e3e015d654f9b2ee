-- What the check leaves to show of `symbol_slab::SymbolSlab::is_zero_unread`.
use Rattle.std.proofs.Common.{◌≡◌, ◌↔◌, ℕ, true, List, Option, Some, length, sym, ap, ◌∙◌}
use Rattle.std.specs.Option.{option_map}
use Rattle.rq_bytes.specs.SymbolSlab.{MarksRead, IsZeroUnmarked, IsZeroUnread}
use Rattle.rq_bytes.proofs.SlabFacts.{holds_slab, count_is, order_is}
use Rattle.rq_bytes.proofs.UnreadFacts.{zeros_by_marks}
use Rattle.rq_bytes.proofs.symbol_slab.SymbolSlab.is_zero_unread.Goals as goal

pub is_zero_unmarked-requires : goal.is_zero_unmarked-requires
is_zero_unmarked-requires c =
    ap length c.as_slice-in-Some.ensures.value ∙ c.in_ok-marks-in-Some.ensures.count_is ∙ count_is (holds_slab c.self.inside c.args.self.now c.self.view_is c.self.invariant)

pub returns-in_ok-marks-in-Some : goal.returns-in_ok-marks-in-Some
returns-in_ok-marks-in-Some c =
    let slab = c.args.self.now in
    let order = c.in-Some.order.items in
    let is = holds_slab c.self.inside slab c.self.view_is c.self.invariant in
    let set : ◌≡◌ {A = Option (List ℕ)} slab.order (Some order) = sym (order_is is) ∙ ap (option_map (λ o. o.items)) c.in-Some.is in
    let read : MarksRead (length slab.values) order c.as_slice-in-Some.result.now =
    rw (← count_is is, c.as_slice-in-Some.ensures.value, ← c.as_slice.ensures.value) c.in_ok-marks-in-Some.ensures in
    let by_marks : IsZeroUnmarked slab c.as_slice-in-Some.result.now ↔ IsZeroUnread slab = zeros_by_marks slab order c.as_slice-in-Some.result.now set read in
    let answer : (c.is_zero_unmarked.result ≡ true) ↔ IsZeroUnmarked slab c.as_slice-in-Some.result.now = c.is_zero_unmarked.ensures in
    (λ e. by_marks.0 (answer.0 e), λ zeros. answer.1 (by_marks.1 zeros))
