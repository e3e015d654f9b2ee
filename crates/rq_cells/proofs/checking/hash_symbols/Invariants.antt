use Rattle.std.proofs.Common.{◌≡◌, map, take}
use Rattle.rq_cells.specs.LongHeads.{symbol_at}
use Rattle.rq_cells.proofs.checking.hash_symbols.Given as goal

-- the symbols so far
abbrev pub invariant-loop-head : goal.invariant-loop-head
invariant-loop-head l = map (λ m. m.now) l.symbols.items ≡ map (symbol_at l.fn.symbol_size l.fn.bytes) (take l.head-index l.fn.heads)
