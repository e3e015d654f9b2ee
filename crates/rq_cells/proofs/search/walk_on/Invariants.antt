use Rattle.std.proofs.Common.{◌-◌, length}
use Rattle.rq_cells.specs.Wanted.{wish_of}
use Rattle.rq_cells.specs.Search.{HasWalked}
use Rattle.rq_cells.proofs.search.walk_on.Given as goal

-- how far the walk has come
abbrev pub invariant-heads : goal.invariant-heads
invariant-heads l = HasWalked (wish_of l.wanted) l.bytes l.walk

abbrev pub decreases-heads : goal.decreases-heads
decreases-heads l = length l.bytes - l.walk.at
