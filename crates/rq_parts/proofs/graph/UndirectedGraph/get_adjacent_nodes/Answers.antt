use Rattle.std.proofs.Common.{ℕ, map, sym, ap, ◌∙◌}
use Rattle.rq_parts.specs.ImmutableListMap.{values_of}
use Rattle.rq_parts.specs.UndirectedGraph.{Graph}
use Rattle.rq_parts.proofs.KeyedLists.{pairs_of_key}
use Rattle.rq_parts.proofs.graph.UndirectedGraph.get_adjacent_nodes.Goals as goal

pub returns : goal.returns
returns c =
    let ends = c.as_slice-ends.result.now in
    let node = c.args.node in
    ap (map (λ (end : ℕ × ℕ). end.1)) (c.part.ensures ∙ sym (pairs_of_key c.first_from.ensures c.first_from-2.ensures))
    ∙ ap (values_of ends) c.from-node.ensures ∙ ap (λ l. values_of l node) c.as_slice-ends.ensures.value ∙ ap (λ (g : Graph). values_of g.ends node) c.self.view_is
