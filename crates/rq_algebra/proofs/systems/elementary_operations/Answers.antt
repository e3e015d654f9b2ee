-- Elementary operations keep the solutions.
use Rattle.rq_algebra.proofs.Places.{exchange_are}
use Rattle.rq_algebra.proofs.Solutions.{adds_keeps, scales_keeps, reorder_keeps, columns_reordered}
use Rattle.rq_algebra.proofs.systems.elementary_operations.Goals as goal

pub returns : goal.returns
returns c = record {
  adding = adds_keeps;
  scaling = scales_keeps;
  row_order = reorder_keeps;
  column_order = columns_reordered;
  exchange = exchange_are;
}
