use Rattle.std.proofs.Common.{◌≡◌, ◌≤◌, map, take}
use Rattle.std.specs.List.{All}
use Rattle.std.specs.Prelude.{filter_map, count_by}
use Rattle.rq_cells.specs.Scans.{HasDigest}
use Rattle.rq_cells.specs.LongHeads.{cell_there, is_damaged_there}
use Rattle.rq_cells.proofs.checking.check_cells.Given as goal

-- the cells among the heads so far
abbrev pub invariant-loop-i : goal.invariant-loop-i
invariant-loop-i l = record {
  cells : map (λ found. found.cell) l.checked.cells.items ≡ filter_map (cell_there l.fn.key l.fn.bytes) (take l.i l.fn.heads);
  digests : All HasDigest l.checked.cells.items;
  damaged : l.checked.damaged ≡ count_by (is_damaged_there l.fn.key l.fn.bytes) (take l.i l.fn.heads);
  few : l.checked.damaged ≤ l.i;
}
