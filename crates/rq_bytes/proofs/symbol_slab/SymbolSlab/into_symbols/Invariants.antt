-- What the loops keep in `symbol_slab::SymbolSlab::into_symbols`.
use Rattle.std.proofs.Common.{◌≡◌, take}
use Rattle.rq_bytes.specs.SymbolSlab.{symbols_in}
use Rattle.rq_bytes.proofs.symbol_slab.SymbolSlab.into_symbols.Given as goal

abbrev pub invariant-loop-i : goal.invariant-loop-i
invariant-loop-i l = l.symbols.items ≡ take l.i (symbols_in l.fn.self)
