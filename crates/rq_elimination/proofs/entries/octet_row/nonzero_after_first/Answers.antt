-- What the check leaves to show of `entries::octet_row::nonzero_after_first`.
use Rattle.rq_elimination.proofs.NonzeroLanes.{ones_after_first}
use Rattle.rq_elimination.proofs.entries.octet_row.nonzero_after_first.Goals as goal

pub returns : goal.returns
returns c = ones_after_first c.args.octets.now 0 c.nonzero_lanes.result c.nonzero_lanes.ensures.bits c.nonzero_lanes.ensures.few
