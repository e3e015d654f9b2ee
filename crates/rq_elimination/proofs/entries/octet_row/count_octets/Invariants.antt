-- What the loops keep in `entries::octet_row::count_octets`.
use Rattle.std.proofs.Common.{◌≤◌}
use Rattle.rq_elimination.proofs.entries.octet_row.count_octets.Given as goal

abbrev pub invariant-loop-column : goal.invariant-loop-column
invariant-loop-column l = l.found ≤ l.column
