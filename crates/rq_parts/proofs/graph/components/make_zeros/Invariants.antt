use Rattle.std.proofs.Common.{◌≡◌, ℕ, ◌-◌, ◌<◌, length, get_or}
use Rattle.rq_parts.proofs.graph.components.make_zeros.Given as goal

abbrev pub invariant-loop-key : goal.invariant-loop-key
invariant-loop-key l = record {
  start : l.numbers.start ≡ l.initial.numbers.start;
  len : length l.numbers.values ≡ length l.initial.numbers.values;
  zeros : (k : ℕ) → k < l.key - l.initial.numbers.start → get_or l.numbers.values k 0 ≡ 0;
}
