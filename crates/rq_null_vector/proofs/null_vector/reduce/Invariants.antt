-- What the loops keep in `null_vector::reduce`.
use Rattle.rq_null_vector.specs.Homogeneous.{KeepsZeros}
use Rattle.rq_elimination.specs.RowSteps.{AreRows}
use Rattle.rq_null_vector.specs.Reduced.{IsReduced}
use Rattle.rq_null_vector.proofs.null_vector.reduce.Given as goal

abbrev pub invariant-loop-column : goal.invariant-loop-column
invariant-loop-column l = record {
  are_rows : AreRows l.rows l.matrix;
  keeps : KeepsZeros l.fn.matrix l.matrix;
  reduced : IsReduced l.rows 0 l.column l.matrix;
}
