-- What the loops keep in `null_vector::clear_column`.
use Rattle.std.proofs.Common.{length}
use Rattle.rq_algebra.specs.Systems.{at}
use Rattle.rq_algebra.specs.PivotColumns.{ClearsColumn}
use Rattle.rq_standard.specs.OctetField.{octets}
use Rattle.rq_parts.specs.DenseOctetMatrix.{entry_of}
use Rattle.rq_null_vector.specs.Homogeneous.{KeepsZeros}
use Rattle.rq_null_vector.proofs.null_vector.clear_column.Given as goal

abbrev pub invariant-loop-i : goal.invariant-loop-i
invariant-loop-i l = record {
  keeps : KeepsZeros l.fn.matrix l.matrix;
  cleared : ClearsColumn octets (length l.rows) l.fn.matrix.width l.column l.column l.i (at l.rows) (entry_of l.fn.matrix) (entry_of l.matrix);
}
