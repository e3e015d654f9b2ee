-- What the loops keep in `entries::octet_row::next_octet`.
use Rattle.rq_algebra.specs.Systems.{at}
use Rattle.rq_parts.specs.PackedBits.{HasZerosBetween}
use Rattle.rq_elimination.proofs.entries.octet_row.next_octet.Given as goal

abbrev pub invariant-loop-column : goal.invariant-loop-column
invariant-loop-column l = HasZerosBetween (at l.octets) l.from l.column
