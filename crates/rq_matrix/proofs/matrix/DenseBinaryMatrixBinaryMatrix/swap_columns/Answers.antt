-- What the check leaves to show of `matrix::DenseBinaryMatrix::swap_columns`.
use Rattle.std.proofs.Common.{inr, refl, ap}
use Rattle.rq_bytes.specs.BinaryOctetVec.{packed_bit}
use Rattle.rq_matrix.proofs.matrix.DenseBinaryMatrixBinaryMatrix.swap_columns.Goals as goal

pub returns : goal.returns
returns c =
    let swapped = c.swap_columns_from.ensures in
    record {
      shape = record { height = swapped.count; width = refl; boundary = refl; indexed = refl };
      below = λ a from below. swapped.swapped a c.args.self.now.width from below;
      above = λ a before _. inr (λ k _. ap (λ r. packed_bit r k) (swapped.above a before));
    }
