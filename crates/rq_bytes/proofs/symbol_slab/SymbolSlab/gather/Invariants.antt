-- What the loops keep in `symbol_slab::SymbolSlab::gather`.
use Rattle.std.proofs.Common.{◌≡◌, ◌*◌, map, take, vec_len}
use Rattle.rq_bytes.specs.Ranges.{cut}
use Rattle.rq_bytes.specs.SymbolSlab.{symbol_in}
use Rattle.rq_bytes.proofs.symbol_slab.SymbolSlab.gather.Given as goal

abbrev pub invariant-loop-place : goal.invariant-loop-place
invariant-loop-place l =
    (cut l.place-index l.fn.self.symbol_size l.«data».items ≡ take l.place-index (map (symbol_in l.fn.self) l.fn.places))
    × (vec_len l.«data» ≡ l.place-index * l.fn.self.symbol_size)
