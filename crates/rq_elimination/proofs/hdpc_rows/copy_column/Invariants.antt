-- What the loops keep in `hdpc_rows::copy_column`.
use Rattle.std.proofs.Common.{◌≡◌, ℕ, ◌<◌, length}
use Rattle.rq_algebra.specs.Systems.{at}
use Rattle.rq_parts.specs.DenseOctetMatrix.{entry_of}
use Rattle.rq_elimination.proofs.hdpc_rows.copy_column.Given as goal

abbrev pub invariant-loop-row : goal.invariant-loop-row
invariant-loop-row l = record {
  copied : (i : ℕ) → 0 < i → i < l.row → at l.octets i ≡ entry_of l.table i l.column;
  len : length l.octets ≡ length l.fn.octets;
}
