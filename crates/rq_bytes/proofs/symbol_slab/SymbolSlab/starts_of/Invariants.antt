-- What the loops keep in `symbol_slab::SymbolSlab::starts_of`.
use Rattle.std.proofs.Common.{◌≡◌, ◌*◌, length, map, take}
use Rattle.rq_algebra.specs.Operations.{meant_at}
use Rattle.rq_bytes.proofs.symbol_slab.SymbolSlab.starts_of.Given as goal

abbrev pub invariant-loop-i : goal.invariant-loop-i
invariant-loop-i g l = record {
  so_far : take l.i l.starts ≡ map (λ i. meant_at l.self.order i * l.self.symbol_size) (take l.i l.places);
  long : length l.starts ≡ g.row.C;
}
