use Rattle.rq_parts.specs.UndirectedGraph.{nodes_of}
use Rattle.rq_parts.proofs.NodeLists.{AreDistinctOf}
use Rattle.rq_parts.proofs.graph.UndirectedGraph.nodes.Given as goal

abbrev pub invariant-loop-end : goal.invariant-loop-end
invariant-loop-end l = AreDistinctOf (nodes_of l.end-items) l.end-index l.nodes.items
