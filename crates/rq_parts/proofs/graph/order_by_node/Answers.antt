use Rattle.std.proofs.Common.{rules, ℕ}
use Rattle.std.proofs.lemmas.List.Sorted.{IsNonDecreasingBy-from_sort_by_key}
use Rattle.rq_parts.proofs.graph.order_by_node.Goals as goal

pub returns-clause-sorted : goal.returns-clause-sorted
returns-clause-sorted c = IsNonDecreasingBy-from_sort_by_key (λ (y : ℕ × ℕ). y.0) _ c.sort_unstable_by_key.ensures.sorted (λ a r q k. search rules)
