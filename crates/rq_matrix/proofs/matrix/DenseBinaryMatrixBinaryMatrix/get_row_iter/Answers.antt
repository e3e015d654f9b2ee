-- What the check leaves to show of `matrix::DenseBinaryMatrix::get_row_iter`.
use Rattle.std.proofs.Common.{◌-◌, [], get_or, sym, subst, ap, ◌∙◌}
use Rattle.rq_bytes.specs.BinaryOctetVec.{packed_bit}
use Rattle.rq_standard.specs.BitTableSteps.{AreOnesOf}
use Rattle.rq_parts.specs.BitPairs.{bit_pairs, ones_among}
use Rattle.rq_matrix.proofs.Pairs.{are_ones_of}
use Rattle.rq_matrix.proofs.matrix.DenseBinaryMatrixBinaryMatrix.get_row_iter.Goals as goal

pub returns : goal.returns
returns c =
    let rows = c.args.self.now.rows in
    let row = get_or rows c.args.row [] in
    let start = c.args.start_col in
    let end = c.args.end_col in
    let ones = c.new_dense_ones.ensures ∙ ap (λ words. ones_among (bit_pairs words start start (end - start))) c.row.ensures in
    subst (λ pairs. AreOnesOf (packed_bit row) start end pairs) (sym ones) (are_ones_of row start end c.requires.range)
