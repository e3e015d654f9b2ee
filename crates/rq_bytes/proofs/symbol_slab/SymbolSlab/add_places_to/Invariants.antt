-- What the loop keeps in `symbol_slab::SymbolSlab::add_places_to`.
use Rattle.std.proofs.Common.{◌≡◌, length, map, take}
use Rattle.rq_bytes.specs.SymbolSlab.{symbol_in}
use Rattle.rq_bytes.proofs.symbol_slab.SymbolSlab.add_places_to.Given as goal

abbrev pub invariant-loop-i : goal.invariant-loop-i
invariant-loop-i g l = record {
  so_far : map (λ row. row.now) (take l.i l.rows) ≡ map (symbol_in l.self) (take l.i l.places);
  long : length l.rows ≡ 8;
}
