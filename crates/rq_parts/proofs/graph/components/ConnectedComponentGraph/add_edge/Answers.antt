-- What the check leaves to show of `graph::components::ConnectedComponentGraph::add_edge`.
use Rattle.std.proofs.Common.{arith}
use Rattle.rq_parts.proofs.graph.components.ConnectedComponentGraph.add_edge.Goals as goal

pub returns-in-Some-clause-edge : goal.returns-in-Some-clause-edge
returns-in-Some-clause-edge c = grind arith
