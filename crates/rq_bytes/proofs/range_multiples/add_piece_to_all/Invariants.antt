-- What the loop keeps in `range_multiples::add_piece_to_all`.
use Rattle.std.proofs.Common.{◌≡◌, map, take}
use Rattle.rq_bytes.specs.RangeSums.{with_multiples_added, by_one}
use Rattle.rq_bytes.proofs.range_multiples.add_piece_to_all.Given as goal

abbrev pub invariant-loop-target : goal.invariant-loop-target
invariant-loop-target g l = l.bytes ≡ with_multiples_added l.fn.bytes l.piece l.at (map by_one (take l.target-index l.targets))
