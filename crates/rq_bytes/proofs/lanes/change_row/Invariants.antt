-- What the loop keeps in `lanes::change_row`.
use Rattle.std.proofs.Common.{◌≡◌, ◌+◌, ◌*◌}
use Rattle.rq_bytes.specs.Lanes.{made_upto}
use Rattle.rq_bytes.proofs.lanes.change_row.Given as goal

abbrev pub invariant-loop-k : goal.invariant-loop-k
invariant-loop-k g l = l.octets ≡ made_upto (g.O.LaneOperation.made l.operation) (32 * l.blocks + l.k) l.fn.octets
