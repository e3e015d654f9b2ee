use Rattle.std.proofs.Common.{◌∙◌, sym, subst, ℕ}
use Rattle.std.specs.List.Sorted.{IsNonDecreasingBy}
use Rattle.std.proofs.lemmas.List.{with_items_is}
use Rattle.rq_parts.proofs.graph.UndirectedGraph.build.Goals as goal

pub invariant_of-self : goal.invariant_of-self
invariant_of-self c =
    let kept = with_items_is c.self.inside.ends c.order_by_node.new.ends (c.order_by_node.auto.ends ∙ c.as_mut_slice.ensures.len) in
    λ _. subst (IsNonDecreasingBy (λ (end : ℕ × ℕ). end.0)) (sym kept) c.order_by_node.ensures.sorted
