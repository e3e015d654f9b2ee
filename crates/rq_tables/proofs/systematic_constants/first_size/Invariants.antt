use Rattle.std.proofs.Common.{◌≡◌, drop}
use Rattle.rq_standard.specs.TableRows.{first_size}
use Rattle.rq_tables.proofs.systematic_constants.first_size.Given as goal

abbrev pub invariant-loop-size : goal.invariant-loop-size
invariant-loop-size l = first_size l.least (drop l.size-index l.sizes) ≡ first_size l.least l.sizes
