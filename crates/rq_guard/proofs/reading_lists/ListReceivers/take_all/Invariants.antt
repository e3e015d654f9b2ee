use Rattle.std.proofs.Common.{◌≡◌, ◌++◌}
use Rattle.std.specs.Vec.Iter.{into_iter_items}
use Rattle.rq_guard.specs.Reading.{cells_of}
use Rattle.rq_guard.specs.ListReading.{AreSound, TakesListCells}
use Rattle.rq_guard.proofs.reading_lists.ListReceivers.take_all.Given as goal

-- the cells so far are taken
abbrev pub invariant-loop-found : goal.invariant-loop-found
invariant-loop-found l = record {
  whole : l.fn.cells.items ≡ l.yielded ++ into_iter_items l.found-iterator;
  sound : AreSound l.fn.table l.self;
  taken : TakesListCells l.fn.table l.fn.self (cells_of l.yielded) l.self;
}
