use Rattle.std.proofs.Common.{◌≡◌}
use Rattle.rq_cells.specs.Wanted.{wish_of}
use Rattle.rq_guard.specs.StreamReading.{IsLooking}
use Rattle.rq_guard.proofs.reading_stream.first_head.Given as goal

-- none was whole yet
abbrev pub invariant-reading : goal.invariant-reading
invariant-reading g l = record {
  looking : IsLooking (wish_of l.fn.wanted) (g.R.Read.remaining l.fn.reader.inner) (g.R.Read.remaining l.reader.inner) l._reads l.search;
  count : l.reader.failed ≡ l.fn.reader.failed;
}
