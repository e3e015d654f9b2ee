-- What the loop keeps in `iterators::DenseOnes::next_one`.
use Rattle.std.proofs.Common.{◌≡◌, ◌-◌, ◌*◌}
use Rattle.rq_parts.specs.OctetIter.{dense_ones_left, IsWithinRow}
use Rattle.rq_parts.proofs.iterators.DenseOnes.next_one.Given as goal

abbrev pub invariant-loop-self : goal.invariant-loop-self
invariant-loop-self l = record {
  within : IsWithinRow l.self-inside;
  ones : dense_ones_left l.self-inside ≡ dense_ones_left l.initial.self-inside;
}

abbrev pub decreases-loop-self : goal.decreases-loop-self
decreases-loop-self l = l.self-inside.end - 64 * l.self-inside.word
