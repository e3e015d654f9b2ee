use Rattle.std.proofs.Common.{rules, ℕ, ltb}
use Rattle.std.proofs.lemmas.List.Sorted.{IsPartitionPoint-from_clause, IsPartitionedBy-ltb}
use Rattle.rq_parts.proofs.KeyedLists.{start_is}
use Rattle.rq_parts.proofs.arraymap.lists.start_of.Goals as goal

pub returns : goal.returns
returns c =
    start_is c.args.entries.now c.args.key c.partition_point.result c.partition_point.ensures.bound
    (IsPartitionPoint-from_clause (λ (y : ℕ × ℕ). ltb y.0 c.args.key) c.args.entries.now c.partition_point.result c.partition_point.ensures.partitioned
    (IsPartitionedBy-ltb (λ (y : ℕ × ℕ). y.0) c.args.entries.now c.args.key c.requires) (λ a r q k. search rules))
