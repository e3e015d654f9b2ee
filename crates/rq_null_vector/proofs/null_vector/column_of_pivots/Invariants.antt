-- What the loops keep in `null_vector::column_of_pivots`.
use Rattle.std.proofs.Common.{◌≡◌, map, take}
use Rattle.rq_parts.specs.DenseOctetMatrix.{entry_of}
use Rattle.rq_null_vector.proofs.null_vector.column_of_pivots.Given as goal

abbrev pub invariant-loop-row : goal.invariant-loop-row
invariant-loop-row l = l.column.items ≡ map (λ row. entry_of l.matrix row l.free) (take l.row-index l.pivots)
