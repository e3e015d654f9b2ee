-- What the loop keeps in `sparse_vec::insert_last`.
use Rattle.std.proofs.Common.{◌≡◌, ◌<◌, ◌↔◌, ℕ, true, List, [], ◌∷◌, ◌++◌, length, get_or, set, max, min}
use Rattle.std.specs.List.{insert}
use Rattle.std.specs.List.Sorted.{IsStrictlyIncreasing}
use Rattle.rq_parts.specs.SparseBinaryVec.{IsInsertionPlace}
use Rattle.rq_parts.proofs.InsertedLower.{StandsFrom}
use Rattle.rq_parts.proofs.sparse_vec.insert_last.Given as goal

abbrev pub invariant-loop-at : goal.invariant-loop-at
invariant-loop-at l = record {
  within : l.at < length l.ones;
  same : length l.ones ≡ length l.fn.ones;
  inserted : (xs : List ℕ) (one place : ℕ) → l.fn.ones ≡ xs ++ one ∷ [] → IsStrictlyIncreasing xs → IsInsertionPlace xs one place → set l.ones l.at (min (get_or l.ones l.at 0) l.last) ≡ insert xs (max l.at place) one;
  below : (k : ℕ) → k < l.at → get_or l.ones k 0 ≡ get_or l.fn.ones k 0;
  listed : (l.is_listed ≡ true) ↔ StandsFrom l.fn.ones l.at l.last;
}

abbrev pub decreases-loop-at : goal.decreases-loop-at
decreases-loop-at l = l.at
