-- What the loop keeps in a sum of rows' operation on one octet.
use Rattle.std.proofs.Common.{◌≡◌, take, fold, get_or}
use Rattle.std.specs.Int.Bits.{bit_xor}
use Rattle.rq_bytes.proofs.row_sums.RowSumLaneOperation.octet.Given as goal

abbrev pub invariant-loop-row : goal.invariant-loop-row
invariant-loop-row l = l.sum ≡ fold (λ sum row. bit_xor sum (get_or row.now l.place 0)) l.octet (take l.row-index l.rows)
