use Rattle.std.proofs.Common.{◌≡◌, ◌-◌, ◌≤◌, length, vec_len}
use Rattle.std.specs.Io.KnownBytes.{Consumes}
use Rattle.rq_cast.proofs.part_reading.read_part.Given as goal

-- what was read so far stood at the front
abbrev pub invariant-reading : goal.invariant-reading
invariant-reading g l = record {
  bytes : Consumes (g.R.Read.remaining l.fn.reader.inner) (g.R.Read.remaining l.reader.inner) l.bytes.items;
  few : length l.bytes.items ≤ l.size;
  count : l.reader.failed ≡ l.fn.reader.failed;
}

abbrev pub decreases-reading : goal.decreases-reading
decreases-reading g l = l.size - vec_len l.bytes
