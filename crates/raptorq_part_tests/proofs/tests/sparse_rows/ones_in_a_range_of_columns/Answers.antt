-- What the check leaves to show of `tests::sparse_rows::ones_in_a_range_of_columns`.
use Rattle.std.proofs.Common.{ap, ◌∙◌, arith}
use Rattle.rq_parts.specs.SparseBinaryVec.{listed_bit}
use Rattle.rq_parts.proofs.ListedBits.{ones_below_all}
use Rattle.raptorq_part_tests.proofs.tests.sparse_rows.ones_in_a_range_of_columns.Goals as goal

pub new_sparse-ones-requires-clause-known : goal.new_sparse-ones-requires-clause-known
new_sparse-ones-requires-clause-known g c = ones_below_all c.insert-3.new.self 7 (λ k above.
    c.in_ok-insert-3.ensures.ok.elsewhere k (λ same. omega arith) ∙ c.in_ok-insert-2.ensures.ok.elsewhere k (λ same. omega arith)
    ∙ c.in_ok-insert.ensures.ok.elsewhere k (λ same. omega arith) ∙ ap (λ ones. listed_bit ones k) c.in_ok-row.ensures.ok)
