use Rattle.std.proofs.Common.{◌≡◌, drop, max}
use Rattle.rq_standard.specs.Parameters.{greatest_within}
use Rattle.rq_tables.proofs.systematic_constants.SystematicTable.greatest_within.Given as goal

abbrev pub invariant-loop-row : goal.invariant-loop-row
invariant-loop-row l = max l.greatest (greatest_within l.limit (drop l.row-index l.row-items)) ≡ greatest_within l.limit l.row-items
