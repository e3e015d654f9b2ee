-- What the loop keeps in `bit_rows::gather_starts`.
use Rattle.rq_parts.proofs.RowBuffers.{AreGathered}
use Rattle.rq_parts.proofs.bit_rows.gather_starts.Given as goal

abbrev pub invariant-loop-row : goal.invariant-loop-row
invariant-loop-row l = AreGathered l.kept l.row_len l.row l.initial.words l.words
