use Rattle.std.proofs.Common.{rules, ℕ, ltb}
use Rattle.std.proofs.lemmas.List.Sorted.{IsPartitionPoint-from_clause, IsPartitionedBy-ltb}
use Rattle.rq_parts.proofs.KeyedLists.{start_is}
use Rattle.rq_parts.proofs.graph.first_from.Goals as goal

pub returns : goal.returns
returns c =
    start_is c.args.ends.now c.args.node c.partition_point.result c.partition_point.ensures.bound
    (IsPartitionPoint-from_clause (λ (y : ℕ × ℕ). ltb y.0 c.args.node) c.args.ends.now c.partition_point.result c.partition_point.ensures.partitioned
    (IsPartitionedBy-ltb (λ (y : ℕ × ℕ). y.0) c.args.ends.now c.args.node c.requires) (λ a r q k. search rules))
