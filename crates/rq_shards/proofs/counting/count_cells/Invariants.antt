use Rattle.std.proofs.Common.{◌≡◌}
use Rattle.rq_cells.specs.Found.{source_of}
use Rattle.rq_shards.specs.Counting.{HasCounted}
use Rattle.rq_shards.proofs.counting.count_cells.Given as goal

-- what was read is counted
abbrev pub invariant-reading : goal.invariant-reading
invariant-reading g l = record {
  counted : HasCounted (source_of l.fn.key l.fn.head) (g.R.Read.remaining l.fn.reader.inner) (g.R.Read.remaining l.reader.inner) l._reads l.pass l.cells;
  failed : l.reader.failed ≡ l.fn.reader.failed;
}
