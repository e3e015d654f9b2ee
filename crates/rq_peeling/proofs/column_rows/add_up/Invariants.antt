-- What the loops keep in `column_rows::add_up`.
use Rattle.std.proofs.Common.{◌≡◌, ℕ, ◌+◌, ◌<◌, ◌≤◌, length, take}
use Rattle.std.specs.List.{sum}
use Rattle.rq_algebra.specs.Systems.{at}
use Rattle.rq_peeling.proofs.column_rows.add_up.Given as goal

abbrev pub invariant-loop-place : goal.invariant-loop-place
invariant-loop-place l = record {
  long : length l.numbers ≡ length l.fn.numbers;
  total : l.sum ≡ sum (take l.place l.fn.numbers);
  done : (k : ℕ) → k < l.place → at l.numbers k ≡ sum (take (k + 1) l.fn.numbers);
  rest : (k : ℕ) → l.place ≤ k → at l.numbers k ≡ at l.fn.numbers k;
}
