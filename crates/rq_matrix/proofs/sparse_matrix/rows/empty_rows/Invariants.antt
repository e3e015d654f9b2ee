-- What the loop keeps in `sparse_matrix::rows::empty_rows`.
use Rattle.std.proofs.Common.{◌≡◌, [], replicate}
use Rattle.rq_matrix.proofs.sparse_matrix.rows.empty_rows.Given as goal

abbrev pub invariant-loop : goal.invariant-loop
invariant-loop l = l.rows.items ≡ replicate l.counter []
