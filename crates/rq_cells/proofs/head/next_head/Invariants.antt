use Rattle.std.proofs.Common.{◌≡◌, ℕ, ◌-◌, ◌<◌, ◌≤◌, length, drop, None}
use Rattle.rq_cells.specs.Cells.{head_at}
use Rattle.rq_cells.proofs.head.next_head.Given as goal

-- no head begins at the places so far
abbrev pub invariant-places : goal.invariant-places
invariant-places l = record {
  behind : l.from ≤ l.at;
  within : l.at ≤ length l.bytes;
  none : (i : ℕ) → l.from ≤ i → i < l.at → head_at l.key (drop i l.bytes) ≡ None;
}

abbrev pub decreases-places : goal.decreases-places
decreases-places l = length l.bytes - l.at
