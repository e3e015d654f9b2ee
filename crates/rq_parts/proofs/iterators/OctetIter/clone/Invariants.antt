-- What the loop keeps in `iterators::OctetIter::clone`.
use Rattle.std.proofs.Common.{◌≡◌, ◌++◌}
use Rattle.rq_parts.proofs.iterators.OctetIter.clone.Given as goal

abbrev pub invariant-loop-pair : goal.invariant-loop-pair
invariant-loop-pair l = record {
  can : goal.iterator-loop-pair.can_next l.pair-iterator;
  ends : goal.iterator-loop-pair.is_finite l.pair-iterator;
  whole : l.self ≡ l.yielded ++ l.pair-iterator;
  copied : l.pairs.items ≡ l.yielded;
}
