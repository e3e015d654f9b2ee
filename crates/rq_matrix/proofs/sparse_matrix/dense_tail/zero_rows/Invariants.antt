-- What the loop keeps in `sparse_matrix::dense_tail::zero_rows`.
use Rattle.std.proofs.Common.{◌≡◌, replicate}
use Rattle.rq_parts.specs.PackedBits.{word_count}
use Rattle.rq_matrix.proofs.sparse_matrix.dense_tail.zero_rows.Given as goal

abbrev pub invariant-loop : goal.invariant-loop
invariant-loop l = l.rows.items ≡ replicate l.counter (replicate (word_count l.width) 0)
