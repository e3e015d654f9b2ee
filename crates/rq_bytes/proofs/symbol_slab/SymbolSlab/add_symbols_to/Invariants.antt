-- What the loop keeps in `symbol_slab::SymbolSlab::add_symbols_to`.
use Rattle.std.proofs.Common.{◌≡◌, length, take}
use Rattle.rq_bytes.specs.SymbolSlab.{with_symbols_added}
use Rattle.rq_bytes.proofs.symbol_slab.SymbolSlab.add_symbols_to.Given as goal

abbrev pub invariant-loop-place : goal.invariant-loop-place
invariant-loop-place l = record {
  so_far : l.row ≡ with_symbols_added l.self l.fn.row (take l.place-index l.places);
  long : length l.row ≡ l.self.symbol_size;
}
