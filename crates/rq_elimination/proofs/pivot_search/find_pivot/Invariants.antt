-- What the loops keep in `pivot_search::find_pivot`.
use Rattle.std.proofs.Common.{◌≡◌, ◌<◌, ◌≤◌, ℕ}
use Rattle.rq_algebra.specs.Systems.{at}
use Rattle.rq_elimination.proofs.pivot_search.find_pivot.Given as goal
use Rattle.rq_parts.specs.DenseOctetMatrix.{entry_of}

abbrev pub invariant-loop-i : goal.invariant-loop-i
invariant-loop-i g l = (k : ℕ) → l.start ≤ k → k < l.i → entry_of (g.M.OctetRows.table l.matrix) (at l.rows k) l.column ≡ 0
