-- What the loops keep in `sparse_vec::SparseBinaryVec::find`.
use Rattle.std.proofs.Common.{◌<◌, ◌≤◌, ℕ, length, slice_index}
use Rattle.rq_parts.proofs.sparse_vec.SparseBinaryVec.find.Given as goal

abbrev pub invariant-loop-gap : goal.invariant-loop-gap
invariant-loop-gap l = record {
  within : l.gap ≤ length l.self;
  behind : (k : ℕ) → l.gap ≤ k → k < length l.self → l.i < slice_index l.self k;
}

abbrev pub decreases-loop-gap : goal.decreases-loop-gap
decreases-loop-gap l = l.gap
