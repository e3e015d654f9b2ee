-- What the loop keeps in `sparse_vec::move_last_to`.
use Rattle.std.proofs.Common.{◌≡◌, ◌-◌, ◌<◌, ◌≤◌, ℕ, List, [], ◌∷◌, ◌++◌, length}
use Rattle.std.specs.List.{insert}
use Rattle.rq_parts.proofs.sparse_vec.move_last_to.Given as goal

abbrev pub invariant-loop-at : goal.invariant-loop-at
invariant-loop-at l = record {
  above : l.gap ≤ l.at;
  within : l.at < length l.ones;
  same : length l.ones ≡ length l.fn.ones;
  lower : (xs : List ℕ) (one : ℕ) → l.fn.ones ≡ xs ++ one ∷ [] → l.ones ≡ insert xs l.at one;
}

abbrev pub decreases-loop-at : goal.decreases-loop-at
decreases-loop-at l = l.at - l.gap
