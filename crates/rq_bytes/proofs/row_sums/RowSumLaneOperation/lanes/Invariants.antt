-- What the loop keeps in a sum of rows' operation on vectors.
use Rattle.std.proofs.Common.{◌≡◌, take, fold, get_or, length}
use Rattle.std.specs.Int.Bits.{bit_xor}
use Rattle.std.specs.List.{range_with_len}
use lib.Lanes.{zip2}
use Rattle.rq_bytes.proofs.row_sums.RowSumLaneOperation.lanes.Given as goal

abbrev pub invariant-loop-row : goal.invariant-loop-row
invariant-loop-row l = l.sum ≡ zip2 (λ x k. fold (λ sum row. bit_xor sum (get_or row.now k 0)) x (take l.row-index l.rows)) l.fn.octets (range_with_len l.place (length l.fn.octets))
