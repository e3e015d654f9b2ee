-- What the loop keeps in `symbol_slab::SymbolSlab::add_all`.
use Rattle.std.proofs.Common.{map, take}
use Rattle.rq_algebra.specs.Operations.{AddAssign}
use Rattle.rq_bytes.proofs.SlabSums.{HasRun}
use Rattle.rq_bytes.proofs.symbol_slab.SymbolSlab.add_all.Given as goal

abbrev pub invariant-loop-src : goal.invariant-loop-src
invariant-loop-src l = HasRun (map (λ src. AddAssign l.dest src) (take l.src-index l.sources)) l.fn.self l.self
