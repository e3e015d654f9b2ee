use Rattle.std.proofs.Common.{◌≡◌, ◌<◌}
use Rattle.rq_base.specs.Indices.{next_below}
use Rattle.rq_base.proofs.WalkLaws.{steps_left}
use Rattle.rq_base.proofs.indices.next_below.Given as goal

abbrev pub invariant-loop-value : goal.invariant-loop-value
invariant-loop-value l = record {
  within : l.value < l.p1;
  same : next_below l.pi_symbols l.p1 l.step l.p1 l.value ≡ next_below l.pi_symbols l.p1 l.step l.p1 l.fn.value;
}

abbrev pub decreases-loop-value : goal.decreases-loop-value
decreases-loop-value l = steps_left l.pi_symbols l.p1 l.step l.value
