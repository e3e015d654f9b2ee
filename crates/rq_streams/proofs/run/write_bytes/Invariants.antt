use Rattle.std.proofs.Common.{◌≡◌, ◌-◌, ◌≤◌, length, take}
use Rattle.std.specs.Io.KnownBytes.{Appends}
use Rattle.rq_streams.proofs.run.write_bytes.Given as goal

-- what was written so far stands at the end
abbrev pub invariant-writing : goal.invariant-writing
invariant-writing g l = record {
  within : l.at ≤ length l.bytes;
  bytes : Appends (g.W.Write.contents l.fn.writer.inner) (g.W.Write.contents l.writer.inner) (take l.at l.bytes);
  count : l.writer.failed ≡ l.fn.writer.failed;
}

abbrev pub decreases-writing : goal.decreases-writing
decreases-writing g l = length l.bytes - l.at
