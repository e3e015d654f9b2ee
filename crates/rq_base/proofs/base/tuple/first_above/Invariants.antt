use Rattle.std.proofs.Common.{◌≡◌, ◌+◌, drop}
use Rattle.rq_standard.specs.Tuple.{first_above}
use Rattle.rq_base.proofs.base.tuple.first_above.Given as goal

abbrev pub invariant-loop-start : goal.invariant-loop-start
invariant-loop-start l = record {
  rest : l.index + first_above l.v (drop l.start-index l.starts) ≡ first_above l.v l.starts;
  count : l.index ≡ l.start-index;
}
