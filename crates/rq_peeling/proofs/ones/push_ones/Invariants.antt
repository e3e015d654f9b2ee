-- What the loops keep in `ones::push_ones`.
use Rattle.std.proofs.Common.{◌≡◌, ◌++◌}
use Rattle.rq_standard.specs.BitTableSteps.{AreOnesOf}
use Rattle.rq_peeling.proofs.RowLists.{places_among}
use Rattle.rq_peeling.proofs.ones.push_ones.Given as goal

abbrev pub invariant-loop-column : goal.invariant-loop-column
invariant-loop-column g l = record {
  can : (goal.iterator-loop-column g).can_next l.column-iterator;
  ends : (goal.iterator-loop-column g).is_finite l.column-iterator;
  whole : AreOnesOf ((g.T.BinaryMatrix.content l.bits).bit l.row) 0 l.lt_columns (l.yielded ++ l.column-iterator);
  columns : l.columns.items ≡ l.fn.columns.items ++ places_among l.yielded;
}
