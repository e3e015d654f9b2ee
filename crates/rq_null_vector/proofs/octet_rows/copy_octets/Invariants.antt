-- What the loops keep in `octet_rows::copy_octets`.
use Rattle.rq_elimination.specs.LeadingRows.{WritesRow}
use Rattle.rq_null_vector.proofs.octet_rows.copy_octets.Given as goal
use Rattle.rq_parts.specs.DenseOctetMatrix.{entry_of}

abbrev pub invariant-loop-column : goal.invariant-loop-column
invariant-loop-column l = WritesRow l.to 0 l.column (entry_of l.octets l.from) l.fn.rows l.rows
