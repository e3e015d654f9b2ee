-- What the check leaves to show of `symbol_slab::SymbolSlab::add_multiples_of`.
use Rattle.std.proofs.Common.{map, ◌∙◌, arith}
use Rattle.std.proofs.lemmas.List.{with_items_is}
use Rattle.std.specs.Vec.{with_items}
use Rattle.rq_algebra.specs.Operations.{meant_at}
use Rattle.rq_bytes.specs.Targets.{start_and_octet}
use Rattle.rq_bytes.proofs.SlabFacts.{holds_slab, within_slice}
use Rattle.rq_bytes.proofs.SlabMultiples.{AreTargets, targets_from, targets_beside, all_multiples}
use Rattle.rq_bytes.proofs.symbol_slab.SymbolSlab.add_multiples_of.Goals as goal

pub start_of-start-requires : goal.start_of-start-requires
start_of-start-requires g c = (c.requires.multiples 0 (record { dest = 0; scalar = 0 }) (omega arith)).1

pub targets_of-targets-requires : goal.targets_of-targets-requires
targets_of-targets-requires g c = (omega arith, (c.requires.count, λ k d lt. (c.requires.multiples k d lt).0))

pub add_multiples-requires-clause-src : goal.add_multiples-requires-clause-src
add_multiples-requires-clause-src g c =
    let slab = c.args.self.now in
    let is = holds_slab c.self.inside slab c.self.view_is c.self.invariant in
    within_slice is (meant_at slab.order c.args.src) c.start_of-start.result c.as_mut_slice.result.now c.start_of-start.ensures.below c.start_of-start.ensures.start c.as_mut_slice.ensures.value

pub add_multiples-requires-clause-targets : goal.add_multiples-requires-clause-targets
add_multiples-requires-clause-targets g c =
    let slab = c.args.self.now in
    let is = holds_slab c.self.inside slab c.self.view_is c.self.invariant in
    let targets : AreTargets slab c.args.src c.args.multiples.now = targets_from c.self.inside slab c.self.view_is c.self.invariant c.args.src c.targets_of-targets.result c.args.multiples.now c.requires.multiples c.targets_of-targets.ensures in
    targets_beside is c.args.src c.start_of-start.ensures.below c.args.multiples.now targets c.targets_of-targets.result c.start_of-start.result c.as_mut_slice.result.now
    c.start_of-start.ensures.start c.targets_of-targets.ensures c.as_mut_slice.ensures.value

pub returns : goal.returns
returns g c =
    let slab = c.args.self.now in
    let new = c.add_multiples.new.bytes in
    let buffer = c.self.inside.«data» in
    let is = holds_slab c.self.inside slab c.self.view_is c.self.invariant in
    let targets : AreTargets slab c.args.src c.args.multiples.now = targets_from c.self.inside slab c.self.view_is c.self.invariant c.args.src c.targets_of-targets.result c.args.multiples.now c.requires.multiples c.targets_of-targets.ensures in
    all_multiples is c.args.src c.start_of-start.ensures.below c.args.multiples.now targets (map start_and_octet c.targets_of-targets.result) c.start_of-start.result c.as_mut_slice.result.now new (with_items buffer new).items
    c.start_of-start.ensures.start c.targets_of-targets.ensures c.as_mut_slice.ensures.value
    (with_items_is buffer new (c.add_multiples.auto.bytes ∙ c.as_mut_slice.ensures.len)) c.add_multiples.ensures
