-- What the loop keeps in `symbol_slab::SymbolSlab::double_add_and_spread`.
use Rattle.std.proofs.Common.{map, take}
use Rattle.rq_algebra.specs.Operations.{AddAssign}
use Rattle.rq_bytes.proofs.SlabSums.{HasRun}
use Rattle.rq_bytes.proofs.symbol_slab.SymbolSlab.double_add_and_spread.Given as goal

abbrev pub invariant-loop-target : goal.invariant-loop-target
invariant-loop-target l = HasRun (map (λ t. AddAssign t l.dest) (take l.target-index l.targets)) l.initial.self l.self
