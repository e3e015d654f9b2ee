-- What the loops keep in `range_multiples::add_multiples_of_piece`.
use Rattle.std.proofs.Common.{◌≡◌, ◌+◌, map, take}
use Rattle.rq_bytes.specs.Ranges.{range_of}
use Rattle.rq_bytes.specs.RangeSums.{with_multiples_added}
use Rattle.rq_bytes.specs.Targets.{start_and_octet}
use Rattle.rq_bytes.proofs.range_multiples.add_multiples_of_piece.Given as goal

abbrev pub invariant-loop-target : goal.invariant-loop-target
invariant-loop-target l =
    l.bytes ≡ with_multiples_added l.fn.bytes (range_of l.fn.bytes (l.src + l.at) 32) l.at (map start_and_octet (take l.target-index l.targets))
