-- What the check leaves to show of `symbol_slab::SymbolSlab::double_add_and_spread_to`.
use Rattle.std.proofs.Common.{◌≡◌, ◌<◌, ℕ, All, List, subst, sym, ◌∙◌}
use Rattle.std.proofs.lemmas.List.{with_items_is}
use Rattle.std.proofs.lemmas.List.Elements.{All-weaker}
use Rattle.std.specs.Vec.{with_items}
use Rattle.rq_algebra.specs.Operations.{AddAssign, meant_at}
use Rattle.rq_bytes.specs.SymbolSlab.{Slab, Allows}
use Rattle.rq_bytes.specs.contracts.symbol_slab.SymbolSlab.{the_view, the_invariant}
use Rattle.rq_bytes.specs.declared.symbol_slab.SymbolSlab.TheInside.{Inside}
use Rattle.rq_bytes.proofs.SlabFacts.{holds_slab, within_slice, meant_below}
use Rattle.rq_bytes.proofs.SlabDoublings.{source_beside, starts_outside, all_spread}
use Rattle.rq_bytes.proofs.SlabSums.{IsSource, AreSources, beside_in}
use Rattle.rq_bytes.proofs.symbol_slab.SymbolSlab.double_add_and_spread_to.Goals as goal

-- the others are other symbols than the one that is doubled
others_of : (inside : Inside) (slab : Slab) → the_view inside ≡ slab → the_invariant inside → (dest : ℕ) (targets : List ℕ) → All (λ t. Allows slab (AddAssign t dest)) targets → AreSources slab dest targets
others_of inside slab view invariant dest targets allowed =
    All-weaker (λ t. Allows slab (AddAssign t dest)) (IsSource slab dest) (λ t a. (meant_below inside slab view invariant t a.0, λ h. a.2 (sym h))) targets allowed

pub double_add_and_spread-requires-clause-dest : goal.double_add_and_spread-requires-clause-dest
double_add_and_spread-requires-clause-dest g c =
    let slab = c.args.self.now in
    let is = holds_slab c.self.inside slab c.self.view_is c.self.invariant in
    let start = c.start_of-start in
    within_slice is (meant_at slab.order c.args.dest) start.result c.as_mut_slice.result.now start.ensures.below start.ensures.start c.as_mut_slice.ensures.value

pub double_add_and_spread-requires-clause-src : goal.double_add_and_spread-requires-clause-src
double_add_and_spread-requires-clause-src g c =
    let slab = c.args.self.now in
    let is = holds_slab c.self.inside slab c.self.view_is c.self.invariant in
    source_beside is c.args.dest c.args.src c.start_of-start.ensures.below c.start_of-src_start.ensures.below c.requires.source.2
    c.start_of-start.result c.start_of-src_start.result c.as_mut_slice.result.now c.start_of-start.ensures.start c.start_of-src_start.ensures.start c.as_mut_slice.ensures.value

pub double_add_and_spread-requires-clause-targets : goal.double_add_and_spread-requires-clause-targets
double_add_and_spread-requires-clause-targets g c =
    let slab = c.args.self.now in
    let is = holds_slab c.self.inside slab c.self.view_is c.self.invariant in
    let others = others_of c.self.inside slab c.self.view_is c.self.invariant c.args.dest c.args.targets.now c.requires.targets in
    beside_in is c.args.dest c.start_of-start.ensures.below c.args.targets.now others
    c.start_of-start.result c.starts_of-starts.result c.as_mut_slice.result.now c.start_of-start.ensures.start c.starts_of-starts.ensures c.as_mut_slice.ensures.value

pub double_add_and_spread-requires-clause-unmixed : goal.double_add_and_spread-requires-clause-unmixed
double_add_and_spread-requires-clause-unmixed g c =
    let slab = c.args.self.now in
    let is = holds_slab c.self.inside slab c.self.view_is c.self.invariant in
    let others = others_of c.self.inside slab c.self.view_is c.self.invariant c.args.dest c.args.targets.now c.requires.targets in
    starts_outside is c.args.dest c.args.src c.start_of-start.ensures.below c.start_of-src_start.ensures.below c.requires.source.2 c.args.targets.now others
    c.start_of-src_start.result c.starts_of-starts.result c.start_of-src_start.ensures.start c.starts_of-starts.ensures

pub returns : goal.returns
returns g c =
    let slab = c.args.self.now in
    let old = c.as_mut_slice.result.now in
    let new = c.double_add_and_spread.new.bytes in
    let buffer = c.self.inside.«data» in
    let is = holds_slab c.self.inside slab c.self.view_is c.self.invariant in
    let others = others_of c.self.inside slab c.self.view_is c.self.invariant c.args.dest c.args.targets.now c.requires.targets in
    all_spread is c.args.dest c.args.src c.start_of-start.ensures.below c.start_of-src_start.ensures.below c.requires.source.2 c.args.targets.now others
    (subst (All (λ x. x < 256)) c.as_slice.ensures.value c.are_octets.ensures)
    c.start_of-start.result c.start_of-src_start.result c.starts_of-starts.result old new (with_items buffer new).items
    c.start_of-start.ensures.start c.start_of-src_start.ensures.start c.starts_of-starts.ensures c.as_mut_slice.ensures.value
    (with_items_is buffer new (c.double_add_and_spread.auto.bytes ∙ c.as_mut_slice.ensures.len)) c.double_add_and_spread.ensures
