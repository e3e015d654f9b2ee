-- What the check leaves to show of `symbol_slab::SymbolSlab::swap`.
use Rattle.std.proofs.Common.{◌*◌, [], List, ℕ, get_or, set, sym, ap, ◌∙◌}
use Rattle.std.specs.List.{swap}
use Rattle.std.proofs.lemmas.List.{with_items_is, set-get_or}
use Rattle.std.proofs.lemmas.List.Edits.{swap_is}
use Rattle.rq_algebra.specs.Operations.{meant_at}
use Rattle.rq_bytes.specs.Ranges.{ranges_exchanged}
use Rattle.rq_bytes.proofs.SlabFacts.{holds_slab, size_is, start_fits, within_slice, apart, exchanged}
use Rattle.rq_bytes.proofs.symbol_slab.SymbolSlab.swap.Goals as goal

pub overflow_mul-first : goal.overflow_mul-first
overflow_mul-first c = record { fits = start_fits c.self.inside c.args.self.now c.self.view_is c.self.invariant c.stored_index-first.result c.stored_index-first.ensures.below }

pub overflow_mul-second : goal.overflow_mul-second
overflow_mul-second c = record { fits = start_fits c.self.inside c.args.self.now c.self.view_is c.self.invariant c.stored_index-second.result c.stored_index-second.ensures.below }

pub swap_ranges-requires-clause-apart : goal.swap_ranges-requires-clause-apart
swap_ranges-requires-clause-apart c =
    let is = holds_slab c.self.inside c.args.self.now c.self.view_is c.self.invariant in
    let p = c.stored_index-first.result in
    let q = c.stored_index-second.result in
    apart is p q _ _ (λ e. c.if-first-second.true (sym e)) (ap (λ s. p * s) (size_is is)) (ap (λ s. q * s) (size_is is))

pub swap_ranges-requires-clause-first : goal.swap_ranges-requires-clause-first
swap_ranges-requires-clause-first c =
    let is = holds_slab c.self.inside c.args.self.now c.self.view_is c.self.invariant in
    within_slice is c.stored_index-first.result _ _ c.stored_index-first.ensures.below (ap (λ s. c.stored_index-first.result * s) (size_is is)) c.as_mut_slice-bytes.ensures.value

pub swap_ranges-requires-clause-second : goal.swap_ranges-requires-clause-second
swap_ranges-requires-clause-second c =
    let is = holds_slab c.self.inside c.args.self.now c.self.view_is c.self.invariant in
    within_slice is c.stored_index-second.result _ _ c.stored_index-second.ensures.below (ap (λ s. c.stored_index-second.result * s) (size_is is)) c.as_mut_slice-bytes.ensures.value

pub returns-then-first-second : goal.returns-then-first-second
returns-then-first-second c =
    let slab = c.args.self.now in
    let inside = c.self.inside in
    let p = c.stored_index-first in
    let q = c.stored_index-second in
    let is = holds_slab inside slab c.self.view_is c.self.invariant in
    let items =
    with_items_is inside.data c.swap_ranges.new.slice (c.swap_ranges.auto.slice ∙ c.as_mut_slice-bytes.ensures.len)
    ∙ c.swap_ranges.ensures
    ∙ ap (λ l. ranges_exchanged l (p.result * inside.symbol_size) (q.result * inside.symbol_size) inside.symbol_size) c.as_mut_slice-bytes.ensures.value
    in
    rw (← p.ensures.is, ← q.ensures.is) (exchanged is p.result q.result _ p.ensures.below q.ensures.below items)

pub returns-else-first-second : goal.returns-else-first-second
returns-else-first-second c =
    let slab = c.args.self.now in
    let p = c.stored_index-first in
    let one = p.result in
    let row = get_or slab.values one [] in
    ap (λ (v : List (List ℕ)). record slab { values = v }) (
    sym (set-get_or slab.values one [])
    ∙ sym (ap (λ l. set l one row) (set-get_or slab.values one []))
    ∙ swap_is slab.values one one [] p.ensures.below p.ensures.below
    ∙ ap (λ n. swap slab.values n one) p.ensures.is
    ∙ ap (swap slab.values (meant_at slab.order c.args.i)) (c.if-first-second.false ∙ c.stored_index-second.ensures.is))
