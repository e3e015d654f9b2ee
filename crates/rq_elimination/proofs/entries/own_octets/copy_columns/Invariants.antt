-- What the loops keep in `entries::own_octets::copy_columns`.
use Rattle.std.proofs.Common.{◌≡◌, ◌++◌, drop, map, take}
use Rattle.rq_algebra.specs.Systems.{at}
use Rattle.rq_parts.specs.DenseOctetMatrix.{row_at}
use Rattle.rq_elimination.proofs.entries.own_octets.copy_columns.Given as goal

abbrev pub invariant-loop-f : goal.invariant-loop-f
invariant-loop-f l = l.own ≡ map (at (row_at l.octets l.from)) (take l.f l.columns) ++ drop l.f l.fn.own
