-- What the loops keep in `octet_rows::octet_rows`.
use Rattle.std.proofs.Common.{◌≡◌, length}
use Rattle.rq_standard.specs.ConstraintMatrix.{with_octet_rows}
use Rattle.rq_elimination.specs.LeadingRows.{HasLeading}
use Rattle.rq_null_vector.proofs.octet_rows.octet_rows.Given as goal
use Rattle.rq_parts.specs.DenseOctetMatrix.{entry_of}

abbrev pub invariant-loop-row : goal.invariant-loop-row
invariant-loop-row g l =
    let content = g.T.BinaryMatrix.content l.bits in
    record {
      rows : HasLeading content.height content.width l.row (with_octet_rows l.first_hdpc (length l.hdpc.rows) content.bit (entry_of l.hdpc)) l.rows;
      width : l.rows.width ≡ content.width;
    }
