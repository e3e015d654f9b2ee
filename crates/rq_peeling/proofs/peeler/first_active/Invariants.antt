-- What the loops keep in `peeler::first_active`.
use Rattle.std.proofs.Common.{take}
use Rattle.rq_peeling.specs.ColumnState.{HasNoActive}
use Rattle.rq_peeling.proofs.peeler.first_active.Given as goal

abbrev pub invariant-loop-column : goal.invariant-loop-column
invariant-loop-column l = HasNoActive (take l.column-index l.row) l.columns
