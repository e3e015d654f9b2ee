use Rattle.std.proofs.Common.{◌≤◌}
use Rattle.rq_parts.proofs.graph.components.root_of.Given as goal

abbrev pub invariant-loop-root : goal.invariant-loop-root
invariant-loop-root l = l.root ≤ l.component

abbrev pub decreases-loop-root : goal.decreases-loop-root
decreases-loop-root l = l.root
