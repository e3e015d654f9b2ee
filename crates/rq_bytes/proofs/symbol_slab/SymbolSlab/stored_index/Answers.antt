-- What the check leaves to show of `symbol_slab::SymbolSlab::stored_index`.
use Rattle.rq_bytes.proofs.SlabFacts.{entry_below}
use Rattle.rq_bytes.proofs.symbol_slab.SymbolSlab.stored_index.Goals as goal

pub returns-in-Some-clause-below : goal.returns-in-Some-clause-below
returns-in-Some-clause-below c =
    entry_below c.self.inside c.args.self.now c.self.view_is c.self.invariant c.in-Some.order c.index.result.now c.args.i c.in-Some.is c.requires c.index.ensures
