-- What the check leaves to show of `entries::octet_row::nonzero_lanes`.
use Rattle.std.proofs.Common.{refl}
use Rattle.rq_elimination.proofs.NonzeroLanes.{lane_bits, lanes_few}
use Rattle.rq_elimination.proofs.entries.octet_row.nonzero_lanes.Goals as goal

pub returns-clause-bits : goal.returns-clause-bits
returns-clause-bits c = lane_bits c.args.octets.now c.args.start c.requires _ refl

pub returns-clause-few : goal.returns-clause-few
returns-clause-few c = lanes_few c.args.octets.now c.args.start c.requires _ refl
