-- What the loops keep in `symbol_slab::SymbolSlab::from_symbols`.
use Rattle.std.proofs.Common.{◌≡◌, ◌*◌, take, vec_len}
use Rattle.rq_bytes.specs.Ranges.{cut}
use Rattle.rq_bytes.proofs.symbol_slab.SymbolSlab.from_symbols.Given as goal

abbrev pub invariant-loop-symbol : goal.invariant-loop-symbol
invariant-loop-symbol l =
    (cut l.symbol-index l.symbol_size l.«data».items ≡ take l.symbol-index l.symbol-items) × (vec_len l.«data» ≡ l.symbol-index * l.symbol_size)
