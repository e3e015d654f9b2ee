-- What the check leaves to show of `symbol_slab::SymbolSlab::get`.
use Rattle.std.proofs.Common.{length, ◌∙◌, ap}
use Rattle.rq_bytes.proofs.SlabFacts.{holds_slab, range_in, size_is, length-range_at, within_slice}
use Rattle.rq_bytes.proofs.symbol_slab.SymbolSlab.get.Goals as goal

pub range-requires : goal.range-requires
range-requires c =
    let is = holds_slab c.self.inside c.args.self.now c.self.view_is c.self.invariant in
    within_slice is _ c.start_of-start.result c.as_slice.result.now c.start_of-start.ensures.below c.start_of-start.ensures.start c.as_slice.ensures.value

pub returns-clause-len : goal.returns-clause-len
returns-clause-len c =
    let is = holds_slab c.self.inside c.args.self.now c.self.view_is c.self.invariant in
    let d = c.start_of-start in
    ap length (c.range.ensures ∙ range_in is _ d.result c.as_slice.result.now d.ensures.below d.ensures.start c.as_slice.ensures.value)
    ∙ length-range_at is _ d.ensures.below
    ∙ size_is is

pub returns-clause-symbol : goal.returns-clause-symbol
returns-clause-symbol c =
    let is = holds_slab c.self.inside c.args.self.now c.self.view_is c.self.invariant in
    c.range.ensures ∙ range_in is _ c.start_of-start.result c.as_slice.result.now c.start_of-start.ensures.below c.start_of-start.ensures.start c.as_slice.ensures.value
