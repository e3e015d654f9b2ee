-- What the check leaves to show of `symbol_slab::SymbolSlab::into_bytes`.
use Rattle.std.proofs.Common.{sym}
use Rattle.rq_bytes.proofs.SlabFacts.{holds_slab, joined_is}
use Rattle.rq_bytes.proofs.symbol_slab.SymbolSlab.into_bytes.Goals as goal

pub returns : goal.returns
returns c = sym (joined_is (holds_slab c.self.inside c.args.self c.self.view_is c.self.invariant))
