use Rattle.std.proofs.Common.{◌≡◌, length}
use Rattle.rq_parts.proofs.graph.components.make_own_parents.Given as goal

abbrev pub invariant-loop-id : goal.invariant-loop-id
invariant-loop-id l = record { start : l.parents.start ≡ 0; len : length l.parents.values ≡ length l.initial.parents.values }
