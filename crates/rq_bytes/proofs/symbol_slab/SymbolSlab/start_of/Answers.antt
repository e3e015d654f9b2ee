-- What the check leaves to show of `symbol_slab::SymbolSlab::start_of`.
use Rattle.rq_bytes.proofs.SlabFacts.{start_fits}
use Rattle.rq_bytes.proofs.symbol_slab.SymbolSlab.start_of.Goals as goal

pub overflow_mul-result : goal.overflow_mul-result
overflow_mul-result c = record { fits = start_fits c.self.inside c.args.self.now c.self.view_is c.self.invariant c.stored_index.result c.stored_index.ensures.below }
