-- What the loops keep in `peeler::Peeler::join_pair`.
use Rattle.std.proofs.Common.{◌≡◌, ◌<◌}
use Rattle.std.specs.Option.{ForSome}
use Rattle.rq_peeling.proofs.peeler.Peeler.join_pair.Given as goal

abbrev pub invariant-loop-column : goal.invariant-loop-column
invariant-loop-column l = record { same : l.self ≡ l.fn.self; first : ForSome l.first (λ column. column < l.system.lt_columns) }
