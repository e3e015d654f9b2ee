-- What the loop keeps in `row_sums::add_rows_beside`.
use Rattle.std.proofs.Common.{◌≡◌, ◌++◌, length, map, take}
use Rattle.rq_bytes.specs.Ranges.{range_of}
use Rattle.rq_bytes.proofs.row_sums.add_rows_beside.Given as goal

abbrev pub invariant-loop-i : goal.invariant-loop-i
invariant-loop-i g l = record {
  so_far : map (λ r. r.now) (take l.i l.rows) ≡ map (λ start. range_of (l.front ++ (l.row ++ l.back)) start l.len) (take l.i l.starts);
  long : length l.rows ≡ 8;
}
