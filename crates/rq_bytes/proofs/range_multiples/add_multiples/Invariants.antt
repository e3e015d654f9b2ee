-- What the loops keep in `range_multiples::add_multiples`.
use Rattle.std.proofs.Common.{◌≡◌, ◌*◌, map}
use Rattle.rq_bytes.specs.Ranges.{range_of}
use Rattle.rq_bytes.specs.RangeSums.{with_multiples_added}
use Rattle.rq_bytes.specs.Targets.{start_and_octet}
use Rattle.rq_bytes.proofs.range_multiples.add_multiples.Given as goal

abbrev pub invariant-loop-piece : goal.invariant-loop-piece
invariant-loop-piece l = l.bytes ≡ with_multiples_added l.fn.bytes (range_of l.fn.bytes l.src (32 * l.piece)) 0 (map start_and_octet l.targets)

abbrev pub invariant-loop-at : goal.invariant-loop-at
invariant-loop-at l = l.bytes ≡ with_multiples_added l.fn.bytes (range_of l.fn.bytes l.src l.at) 0 (map start_and_octet l.targets)
