use Rattle.std.proofs.Common.{ℕ, ◌-◌, ◌^◌, List}
use Rattle.rq_cells.specs.declared.cell.Cell.{Cell}
use Rattle.rq_cast.specs.Windows.{IsSoundWindow, IsMoving, KeepsCounts}
use Rattle.rq_cast.proofs.window.Window.settle_all.Given as goal

-- the parts so far are settled
abbrev pub invariant-settling : goal.invariant-settling
invariant-settling l = record {
  sound : IsSoundWindow l.fn.table l.self;
  counts : KeepsCounts l.fn.self l.self;
  moving : (stream : List ℕ) (width : ℕ) (came : List Cell) (cell : Cell) (given : List ℕ)
      → IsMoving l.fn.table stream width came cell given l.fn.self → IsMoving l.fn.table stream width came cell given l.self;
}

abbrev pub decreases-settling : goal.decreases-settling
decreases-settling l = 2 ^ 31 - l.self.names.count
