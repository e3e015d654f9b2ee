-- What the check leaves to show of `symbol_slab::SymbolSlab::add_sources`.
use Rattle.std.proofs.Common.{◌∙◌}
use Rattle.std.proofs.lemmas.List.{with_items_is}
use Rattle.std.specs.Vec.{with_items}
use Rattle.rq_algebra.specs.Operations.{meant_at}
use Rattle.rq_bytes.proofs.SlabFacts.{holds_slab, within_slice}
use Rattle.rq_bytes.proofs.SlabSums.{sources_of, all_added, beside_in}
use Rattle.rq_bytes.proofs.symbol_slab.SymbolSlab.add_sources.Goals as goal

pub add_ranges-requires-clause-dest : goal.add_ranges-requires-clause-dest
add_ranges-requires-clause-dest g c =
    let slab = c.args.self.now in
    let is = holds_slab c.self.inside slab c.self.view_is c.self.invariant in
    within_slice is (meant_at slab.order c.args.dest) c.start_of-start.result c.as_mut_slice.result.now c.start_of-start.ensures.below c.start_of-start.ensures.start c.as_mut_slice.ensures.value

pub add_ranges-requires-clause-starts : goal.add_ranges-requires-clause-starts
add_ranges-requires-clause-starts g c =
    let slab = c.args.self.now in
    let dest = c.args.dest in
    let is = holds_slab c.self.inside slab c.self.view_is c.self.invariant in
    let sources = sources_of c.self.inside slab c.self.view_is c.self.invariant dest c.args.sources.now c.requires.sources in
    beside_in is dest c.start_of-start.ensures.below c.args.sources.now sources c.start_of-start.result c.starts_of-starts.result c.as_mut_slice.result.now
    c.start_of-start.ensures.start c.starts_of-starts.ensures c.as_mut_slice.ensures.value

pub returns : goal.returns
returns g c =
    let slab = c.args.self.now in
    let dest = c.args.dest in
    let new = c.add_ranges.new.bytes in
    let buffer = c.self.inside.«data» in
    let is = holds_slab c.self.inside slab c.self.view_is c.self.invariant in
    let sources = sources_of c.self.inside slab c.self.view_is c.self.invariant dest c.args.sources.now c.requires.sources in
    all_added is dest c.start_of-start.ensures.below c.args.sources.now sources c.start_of-start.result c.starts_of-starts.result c.as_mut_slice.result.now new (with_items buffer new).items
    c.start_of-start.ensures.start c.starts_of-starts.ensures c.as_mut_slice.ensures.value
    (with_items_is buffer new (c.add_ranges.auto.bytes ∙ c.as_mut_slice.ensures.len)) c.add_ranges.ensures
