use Rattle.std.proofs.Common.{◌≡◌, map, take}
use Rattle.std.specs.Prelude.{All}
use Rattle.rq_cast.specs.Surveyed.{IsStanding}
use Rattle.rq_cast.proofs.survey.standings_in.Given as goal

abbrev pub invariant-loop-head : goal.invariant-loop-head
invariant-loop-head l = record {
  each : All (IsStanding l.table l.key l.window l.bytes) l.standings.items;
  heads : map (λ s. s.head) l.standings.items ≡ take l.head-index l.head-items;
}
