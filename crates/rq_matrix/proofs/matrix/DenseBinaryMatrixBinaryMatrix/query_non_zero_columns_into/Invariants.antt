-- What the loop keeps in `matrix::DenseBinaryMatrix::query_non_zero_columns_into`.
use Rattle.std.proofs.Common.{◌≡◌, ℕ, ◌-◌, ◌≤◌, ◌++◌, [], map, slice_index_or}
use Rattle.std.specs.Prelude.{vec_capacity}
use Rattle.rq_parts.specs.BitPairs.{bit_pairs, ones_among}
use Rattle.rq_matrix.proofs.matrix.DenseBinaryMatrixBinaryMatrix.query_non_zero_columns_into.Given as goal

abbrev pub invariant-loop-column : goal.invariant-loop-column
invariant-loop-column l = record {
  can : goal.iterator-loop-column.can_next l.column-iterator;
  ends : goal.iterator-loop-column.is_finite l.column-iterator;
  whole : ones_among (bit_pairs (slice_index_or l.self.rows l.row []) l.start_col l.start_col (l.self.width - l.start_col)) ≡ l.yielded ++ l.column-iterator;
  columns : l.out.items ≡ map (λ (pair : ℕ × ℕ). pair.0) l.yielded;
  room : l.self.width - l.start_col ≤ vec_capacity l.out;
}
