-- What the check leaves to show of `matrix::DenseBinaryMatrix::get_ones_in_column_into`.
use Rattle.std.proofs.Common.{ℕ, [], Vec, Global, vec_len, get_or, ap, ◌∙◌, inl, inr}
use Rattle.std.specs.Prelude.{vec_capacity}
use Rattle.rq_matrix.specs.DenseRows.{bit_in}
use Rattle.rq_parts.proofs.PackedBits.{packed_bit-lt}
use Rattle.rq_matrix.proofs.FoundOnes.{found_next}
use Rattle.rq_matrix.proofs.matrix.DenseBinaryMatrixBinaryMatrix.get_ones_in_column_into.Goals as goal
use Rattle.rq_matrix.proofs.matrix.DenseBinaryMatrixBinaryMatrix.get_ones_in_column_into.Goals.{then-eq, else-eq}

pub loop-row-preserved : goal.loop-row-preserved
loop-row-preserved c =
    let rows = c.args.self.now.rows in
    let row = c.loop-row.row in
    found_next (λ i. bit_in rows i c.args.col) c.args.start_row row c.args.end_row c.loop-row.out c.if-eq.out c.loop-row.invariant c.loop-row.auto.row (packed_bit-lt (get_or rows row []) c.args.col) c.get.result c.one.result c.eq.result c.get.ensures c.one.ensures c.eq.ensures
    (elim c.if-eq.branch [
      | then-eq w ↦ inl (w.if-eq.true, ap (λ (v : Vec ℕ Global). v.items) w.out-is ∙ w.push_reserved.ensures.items, ap (λ (v : Vec ℕ Global). vec_len v) w.out-is ∙ w.push_reserved.ensures.len, ap (λ (v : Vec ℕ Global). vec_capacity v) w.out-is ∙ w.push_reserved.ensures.capacity)
      | else-eq w ↦ inr (w.if-eq.false, w.out-is)
    ])
