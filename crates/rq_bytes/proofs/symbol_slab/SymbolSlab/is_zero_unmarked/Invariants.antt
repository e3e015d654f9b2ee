-- What the loop keeps in `symbol_slab::SymbolSlab::is_zero_unmarked`.
use Rattle.std.proofs.Common.{◌≡◌, ℕ, ◌<◌, [], false, get_or, replicate}
use Rattle.rq_bytes.proofs.symbol_slab.SymbolSlab.is_zero_unmarked.Given as goal

abbrev pub invariant-loop-i : goal.invariant-loop-i
invariant-loop-i l = (k : ℕ) → k < l.i → get_or l.marks k false ≡ false → get_or l.fn.self.values k [] ≡ replicate l.fn.self.symbol_size 0
