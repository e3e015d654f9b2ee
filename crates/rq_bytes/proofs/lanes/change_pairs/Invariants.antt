-- What the loop keeps in `lanes::change_pairs`.
use Rattle.std.proofs.Common.{◌≡◌, ◌*◌}
use Rattle.rq_bytes.specs.Lanes.{made_upto}
use Rattle.rq_bytes.proofs.lanes.change_pairs.Given as goal

abbrev pub invariant-loop-pair : goal.invariant-loop-pair
invariant-loop-pair g l = l.octets ≡ made_upto (g.O.LaneOperation.made l.operation) (64 * l.pair) l.fn.octets
