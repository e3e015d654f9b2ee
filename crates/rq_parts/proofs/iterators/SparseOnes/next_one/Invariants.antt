use Rattle.std.proofs.Common.{length}
use Rattle.rq_parts.proofs.SparsePairs.{IsLeft}
use Rattle.rq_parts.proofs.iterators.SparseOnes.next_one.Given as goal

abbrev pub invariant-loop-one : goal.invariant-loop-one
invariant-loop-one l = let s = l.self-inside in IsLeft l.fn.self s.ones.now s.columns.now s.start s.end

abbrev pub decreases-loop-one : goal.decreases-loop-one
decreases-loop-one l = length l.self-inside.ones.now
