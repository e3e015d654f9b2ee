use Rattle.std.proofs.Common.{◌≡◌, ◌<◌, false}
use Rattle.rq_cells.specs.Wanted.{wish_of}
use Rattle.rq_cast.specs.Input.{is_put_back, unread}
use Rattle.rq_cast.proofs.Runs.{IsRunning}
use Rattle.rq_cast.proofs.run.run_receive.Given as goal

-- what was read is fed, and what is settled of it is written
abbrev pub invariant-reading : goal.invariant-reading
invariant-reading g l = record {
  running : IsRunning l.fn.wanted.table.now (wish_of l.fn.wanted) l.fn.window (unread g.R.Read.remaining l.fn.input) (g.W.Write.contents l.fn.writer.inner)
      (unread g.R.Read.remaining l.input) (g.W.Write.contents l.writer.inner) l._reads l.receiver l.seen;
  once : 0 < l._reads → is_put_back l.input ≡ false;
  reads : l.input.reader.failed ≡ l.fn.input.reader.failed;
  writes : l.writer.failed ≡ l.fn.writer.failed;
}
