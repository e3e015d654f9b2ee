-- What the loops keep in `range_multiples::double_add_and_spread`.
use Rattle.std.proofs.Common.{◌≡◌, ◌*◌, map}
use Rattle.rq_bytes.specs.RangeSums.{by_one}
use Rattle.rq_bytes.proofs.Spreads.{spread_upto}
use Rattle.rq_bytes.proofs.range_multiples.double_add_and_spread.Given as goal

abbrev pub invariant-loop-piece : goal.invariant-loop-piece
invariant-loop-piece l = l.bytes ≡ spread_upto l.fn.bytes l.dest l.src (map by_one l.targets) (32 * l.piece)

abbrev pub invariant-loop-at : goal.invariant-loop-at
invariant-loop-at l = l.bytes ≡ spread_upto l.fn.bytes l.dest l.src (map by_one l.targets) l.at
