-- What the check leaves to show of `symbol_slab::SymbolSlab::symbol_size`.
use Rattle.std.proofs.Common.{◌<◌, All, subst}
use Rattle.rq_algebra.specs.Symbols.{AreSymbols}
use Rattle.rq_standard.specs.OctetField.{octets}
use Rattle.rq_bytes.proofs.SlabFacts.{holds_slab, count_is, are_symbols}
use Rattle.rq_bytes.proofs.symbol_slab.SymbolSlab.symbol_size.Goals as goal

pub returns-clause-symbols : goal.returns-clause-symbols
returns-clause-symbols c =
    let slab = c.args.self.now in
    let is = holds_slab c.self.inside slab c.self.view_is c.self.invariant in
    subst (λ n. AreSymbols octets slab.symbol_size n slab.values) (count_is is) (are_symbols is (subst (All (λ x. x < 256)) c.as_slice.ensures.value c.are_octets.ensures))
