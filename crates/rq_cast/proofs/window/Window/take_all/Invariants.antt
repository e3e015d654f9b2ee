use Rattle.std.proofs.Common.{◌≡◌, ◌++◌, map}
use Rattle.std.specs.Vec.Iter.{into_iter_items}
use Rattle.rq_cast.specs.Windows.{IsSoundWindow, TakesCells}
use Rattle.rq_cast.proofs.window.Window.take_all.Given as goal

-- the cells so far are taken
abbrev pub invariant-loop-found : goal.invariant-loop-found
invariant-loop-found l = record {
  whole : l.fn.cells.items ≡ l.yielded ++ into_iter_items l.found-iterator;
  sound : IsSoundWindow l.fn.table l.self;
  taken : TakesCells l.fn.table l.fn.self (map (λ found. found.cell) l.yielded) l.self;
}
