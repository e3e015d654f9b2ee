use Rattle.std.proofs.Common.{◌≡◌}
use Rattle.rq_guard.specs.ListReading.{AreSound, IsReceivingLists}
use Rattle.rq_guard.proofs.reading_lists.receive_lists.Given as goal

-- what was read is received
abbrev pub invariant-reading : goal.invariant-reading
invariant-reading g l = record {
  receiving : IsReceivingLists l.fn.by.table.now l.fn.by.key.now l.fn.stream (g.R.Read.remaining l.fn.reader.inner) (g.R.Read.remaining l.reader.inner) l._reads l.pass l.lists;
  sound : AreSound l.fn.by.table.now l.lists;
  count : l.reader.failed ≡ l.fn.reader.failed;
}
