-- What the loops keep in `octet_rows::copy_dense_bits`.
use Rattle.std.proofs.Common.{min, count_by, take, ◌==◌}
use Rattle.rq_elimination.specs.LeadingRows.{WritesRow}
use Rattle.rq_null_vector.proofs.octet_rows.copy_dense_bits.Given as goal

abbrev pub invariant-loop-column : goal.invariant-loop-column
invariant-loop-column g l = WritesRow l.row l.lt_columns l.fn.rows.width (λ k. min 1 (count_by (λ place. place == k) (take l.column-index l.column-items))) l.fn.rows l.rows
