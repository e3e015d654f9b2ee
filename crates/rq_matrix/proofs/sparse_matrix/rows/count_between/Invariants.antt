-- What the loop keeps in `sparse_matrix::rows::count_between`.
use Rattle.std.proofs.Common.{◌≡◌, ◌≤◌, length, take}
use Rattle.rq_parts.specs.BitPairs.{sparse_pairs}
use Rattle.rq_matrix.proofs.sparse_matrix.rows.count_between.Given as goal

abbrev pub invariant-loop-i : goal.invariant-loop-i
invariant-loop-i l = record {
  counted : l.count ≡ length (sparse_pairs (take l.i l.row) l.columns l.start l.end);
  few : l.count ≤ l.i;
}
