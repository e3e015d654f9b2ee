-- What the check leaves to show of `symbol_slab::SymbolSlab::len`.
use Rattle.std.proofs.Common.{◌<◌, All, subst}
use Rattle.rq_bytes.proofs.SlabFacts.{holds_slab, count_is, are_symbols}
use Rattle.rq_bytes.proofs.symbol_slab.SymbolSlab.len.Goals as goal

pub returns-clause-count : goal.returns-clause-count
returns-clause-count c = count_is (holds_slab c.self.inside c.args.self.now c.self.view_is c.self.invariant)

pub returns-clause-symbols : goal.returns-clause-symbols
returns-clause-symbols c =
    let is = holds_slab c.self.inside c.args.self.now c.self.view_is c.self.invariant in
    are_symbols is (subst (All (λ x. x < 256)) c.as_slice.ensures.value c.are_octets.ensures)
