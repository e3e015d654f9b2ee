-- What the loops keep in `symbol_slab::SymbolSlab::targets_of`.
use Rattle.std.proofs.Common.{◌≡◌, length, map, take}
use Rattle.rq_bytes.specs.Targets.{start_and_octet, start_and_octet_in}
use Rattle.rq_bytes.proofs.symbol_slab.SymbolSlab.targets_of.Given as goal

abbrev pub invariant-loop-i : goal.invariant-loop-i
invariant-loop-i g l = record {
  so_far : map start_and_octet (take l.i l.targets) ≡ map (start_and_octet_in l.self) (take l.i l.multiples);
  long : length l.targets ≡ g.row.C;
}
