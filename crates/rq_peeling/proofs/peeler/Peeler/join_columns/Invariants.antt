-- What the loops keep in `peeler::Peeler::join_columns`.
use Rattle.std.proofs.Common.{◌≡◌}
use Rattle.rq_peeling.proofs.peeler.Peeler.join_columns.Given as goal

abbrev pub invariant-loop : goal.invariant-loop
invariant-loop l = record { degrees : l.self.degrees ≡ l.fn.self.degrees; columns : l.self.columns ≡ l.fn.self.columns; system : l.self.system ≡ l.fn.self.system }
