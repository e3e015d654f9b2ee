use Rattle.std.proofs.Common.{◌≡◌}
use Rattle.rq_guard.specs.Mending.{IsSoundMending}
use Rattle.rq_guard_tests.proofs.tests.mended.Given as goal

-- some parts are mended, and no call failed
abbrev pub invariant-loop-part : goal.invariant-loop-part
invariant-loop-part l = record {
  sound : IsSoundMending l.by.table.now l.mending;
  file : l.file.failed ≡ 0;
  writer : l.writer.failed ≡ 0;
}
