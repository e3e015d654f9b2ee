use Rattle.rq_cells.specs.Wanted.{wish_of}
use Rattle.rq_cells.proofs.Walks.{IsBehind}
use Rattle.rq_cells.proofs.search.walk_known.Given as goal

-- the walk is behind the heads so far
abbrev pub invariant-loop-noted : goal.invariant-loop-noted
invariant-loop-noted l = IsBehind (wish_of l.wanted) l.bytes l.looked l.known l.walk l.noted-index
