use Rattle.std.proofs.Common.{[], length, ◌-◌}
use Rattle.rq_cast.specs.Received.{wish_over}
use Rattle.rq_cast.proofs.Listed.{Listed}
use Rattle.rq_cast.proofs.survey.heads_in.Given as goal

abbrev pub invariant-cells : goal.invariant-cells
invariant-cells l = Listed (wish_over l.table l.key [] []) l.bytes l.at l.heads.items

abbrev pub decreases-cells : goal.decreases-cells
decreases-cells l = length l.bytes - l.at
