-- What the check leaves to show of `null_vector::scale_row`.
use Rattle.std.proofs.Common.{◌≡◌, ℕ, ◌<◌, subst, length}
use Rattle.rq_algebra.specs.Steps.{ScalesRow}
use Rattle.rq_algebra.proofs.Sums.{inverse_nonzero}
use Rattle.rq_standard.specs.OctetField.{octets}
use Rattle.rq_parts.specs.DenseOctetMatrix.{entry_of}
use Rattle.rq_elimination.proofs.ChangedEntries.{one-div}
use Rattle.rq_null_vector.proofs.ZeroValues.{scales_row, scaled_keeps}
use Rattle.rq_null_vector.proofs.null_vector.scale_row.Goals as goal

module _ (c : goal.After-mul_assign_row) where
  abbrev entry : ℕ
  entry = entry_of c.args.matrix.now c.args.row c.args.column

  is_octet : entry < 256
  is_octet = c.requires.octets.elements c.args.row c.args.column c.requires.row c.requires.column

  scalar_is : c.div-scalar.result ≡ octets.inverse entry
  scalar_is = cc (c.div-scalar.ensures, c.one.ensures, c.get.ensures, one-div entry is_octet c.requires.nonzero)

  small : c.div-scalar.result < 256
  small = rw scalar_is (octets.inverse_below entry is_octet c.requires.nonzero)

pub returns-clause-keeps : goal.returns-clause-keeps
returns-clause-keeps c = scaled_keeps c.args.matrix.now c.requires.octets c.args.row c.div-scalar.result c.requires.row (small c) c.mul_assign_row.new.self c.mul_assign_row.ensures (rw (scalar_is c) (inverse_nonzero octets (entry c) (is_octet c) c.requires.nonzero))

pub returns-clause-scaled : goal.returns-clause-scaled
returns-clause-scaled c =
    subst (λ (s : ℕ). ScalesRow octets (length c.args.matrix.now.rows) c.args.matrix.now.width c.args.row s (entry_of c.args.matrix.now) (entry_of c.mul_assign_row.new.self)) (scalar_is c)
    (scales_row c.args.matrix.now c.requires.octets c.args.row c.div-scalar.result c.requires.row (small c) c.mul_assign_row.new.self c.mul_assign_row.ensures)
