-- What the loop keeps in `sparse_matrix::column_index::places_between`.
use Rattle.std.proofs.Common.{◌≡◌, ◌≤◌, length, take, vec_len}
use Rattle.std.specs.Prelude.{vec_capacity}
use Rattle.rq_matrix.specs.SparseRows.{places_between}
use Rattle.rq_matrix.proofs.sparse_matrix.column_index.places_between.Given as goal

abbrev pub invariant-loop-row : goal.invariant-loop-row
invariant-loop-row l = record {
  places : l.out.items ≡ places_between (take l.row-index l.rows) l.places l.start l.end;
  few : vec_len l.out ≤ l.row-index;
  room : length l.rows ≤ vec_capacity l.out;
}
