-- What the loop keeps in `sparse_matrix::column_index::column_index`.
use Rattle.std.proofs.Common.{◌≡◌, ℕ, [], get_or}
use Rattle.rq_standard.specs.BitTableSteps.{ArePlacesOfOnes}
use Rattle.rq_parts.specs.ImmutableListMap.{values_of}
use Rattle.rq_parts.specs.SparseBinaryVec.{listed_bit}
use Rattle.rq_matrix.proofs.sparse_matrix.column_index.column_index.Given as goal

abbrev pub invariant-loop-row : goal.invariant-loop-row
invariant-loop-row l = record {
  keys : l.builder.keys ≡ l.columns;
  each : (column : ℕ) → ArePlacesOfOnes (λ row. listed_bit (get_or l.rows.items row []) column) 0 l.row (values_of l.builder.pairs column);
}
