use Rattle.std.proofs.Common.{[], refl}
use Rattle.rq_cells.specs.Wanted.{wish_of}
use Rattle.rq_cells.proofs.Walks.{none_looked_at}
use Rattle.rq_cells.proofs.search.first_wanted.Goals as goal

pub walk_over-requires : goal.walk_over-requires
walk_over-requires c = record { front = []; rest = c.args.bytes.now; is = refl; known = none_looked_at (wish_of c.args.wanted.now) [] }
