-- What the loops keep in `peeler::Peeler::choose_rows`.
use Rattle.std.proofs.Common.{◌≡◌, length}
use Rattle.rq_peeling.specs.Chosen.{HasChosen}
use Rattle.rq_peeling.proofs.peeler.Peeler.choose_rows.Given as goal

abbrev pub invariant-loop-turn : goal.invariant-loop-turn
invariant-loop-turn l = record {
  chosen : HasChosen l.fn.self.system.now.width l.fn.self.system.now.lt_columns l.fn.self.system.now.ones l.rows.items l.self.columns l.self.degrees;
  turns : length l.rows.items ≡ l.turn;
  system : l.self.system ≡ l.fn.self.system;
}
