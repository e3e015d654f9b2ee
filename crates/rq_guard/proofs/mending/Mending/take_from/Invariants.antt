use Rattle.std.proofs.Common.{◌≡◌}
use Rattle.rq_guard.specs.Mending.{IsSoundMending}
use Rattle.rq_guard.specs.Reading.{IsTakingFrom}
use Rattle.rq_guard.proofs.mending.Mending.take_from.Given as goal

-- what was read is taken, and made nothing ready
abbrev pub invariant-reading : goal.invariant-reading
invariant-reading g l = record {
  taking : IsTakingFrom l.fn.by.table.now l.fn.by.key.now l.fn.head (g.R.Read.remaining l.fn.reader.inner) (g.R.Read.remaining l.reader.inner) l._reads l.pass l.fn.self l.self;
  sound : IsSoundMending l.fn.by.table.now l.self;
  count : l.reader.failed ≡ l.fn.reader.failed;
}
