-- What the check leaves to show of `symbol_slab::SymbolSlab::places`.
use Rattle.rq_bytes.proofs.SlabFacts.{count_unordered}
use Rattle.rq_bytes.proofs.symbol_slab.SymbolSlab.places.Goals as goal

pub returns-in-None : goal.returns-in-None
returns-in-None c = count_unordered c.self.inside c.args.self.now c.self.view_is c.self.invariant c.in-None.is
