-- What the loop keeps in `symbol_slab::SymbolSlab::add_multiples`.
use Rattle.std.proofs.Common.{map, take}
use Rattle.rq_bytes.proofs.SlabMultiples.{fma_of}
use Rattle.rq_bytes.proofs.SlabSums.{HasRun}
use Rattle.rq_bytes.proofs.symbol_slab.SymbolSlab.add_multiples.Given as goal

abbrev pub invariant-loop-multiple : goal.invariant-loop-multiple
invariant-loop-multiple l = HasRun (map (fma_of l.src) (take l.multiple-index l.multiples)) l.fn.self l.self
