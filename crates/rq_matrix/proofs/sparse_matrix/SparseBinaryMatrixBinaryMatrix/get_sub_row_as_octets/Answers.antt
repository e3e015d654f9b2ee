-- What the check leaves to show of `sparse_matrix::SparseBinaryMatrix::get_sub_row_as_octets`.
use Rattle.std.proofs.Common.{◌-◌, ℕ, List, sym, subst, ◌∙◌, arith}
use Rattle.rq_bytes.specs.BinaryOctetVec.{packed_bit}
use Rattle.rq_standard.specs.BitTableSteps.{AreBitsOf}
use Rattle.rq_matrix.specs.SparseBinaryMatrix.{sparse_bit}
use Rattle.rq_matrix.proofs.SparseMatrixLaws.{octets-from, dense_place}
use Rattle.rq_matrix.proofs.sparse_matrix.SparseBinaryMatrixBinaryMatrix.get_sub_row_as_octets.Goals as goal

pub returns-clause-ok : goal.returns-clause-ok
returns-clause-ok c =
    let old = c.args.self.now in
    let n = old.width - old.boundary in
    let bit = sparse_bit old.width old.boundary old.rows.items old.row_order old.column_order old.tail c.args.row in
    let octets = c.in_ok-part_of.field-0 in
    subst (λ start. AreBitsOf bit start old.width octets) (sym c.requires.dense)
    (octets-from c.in_ok-bits.bits bit n old.boundary old.width octets (omega (arith, old.boundary_within))
    (λ k below.
    c.in_ok-bits.ensures.bits k (omega (arith, old.tail_columns))
    ∙ dense_place old.width old.boundary old.rows.items old.row_order old.column_order old.tail c.args.row c.stored_row.result c.stored_row.ensures.value k old.tail_columns old.boundary_within (omega (arith, old.tail_columns)))
    (subst (λ (l : List ℕ). AreBitsOf (packed_bit l) 0 n octets) c.as_slice.ensures c.in_ok-part_of.ensures))
