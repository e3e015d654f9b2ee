use Rattle.std.proofs.Common.{◌≡◌, ◌++◌, All}
use Rattle.std.specs.List.{filter}
use Rattle.std.specs.Vec.Iter.{into_iter_items}
use Rattle.rq_cells.specs.Scans.{HasDigest}
use Rattle.rq_cast.specs.Taken.{has_head}
use Rattle.rq_guard.specs.Reading.{cells_of}
use Rattle.rq_guard.proofs.reading.with_head.Given as goal

-- those so far
abbrev pub invariant-loop-found : goal.invariant-loop-found
invariant-loop-found l = record {
  whole : l.fn.cells.items ≡ l.yielded ++ into_iter_items l.found-iterator;
  kept : cells_of l.kept.items ≡ filter (has_head l.head) (cells_of l.yielded);
  digests : All HasDigest l.kept.items;
}
