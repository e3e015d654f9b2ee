-- What the loops keep in `peeler::Peeler::inactivate_columns`.
use Rattle.std.proofs.Common.{◌≡◌, take}
use Rattle.rq_peeling.specs.RowDegrees.{KeepsDegrees}
use Rattle.rq_peeling.specs.ColumnState.{InactivatesRow}
use Rattle.rq_peeling.proofs.peeler.Peeler.inactivate_columns.Given as goal

abbrev pub invariant-loop-column : goal.invariant-loop-column
invariant-loop-column l = record {
  inactive : InactivatesRow (take l.column-index l.row) l.fn.self.columns l.self.columns;
  counted : KeepsDegrees l.fn.self.system.now.ones l.fn.self.columns l.self.columns l.fn.self.degrees l.self.degrees;
  system : l.self.system ≡ l.fn.self.system;
}
