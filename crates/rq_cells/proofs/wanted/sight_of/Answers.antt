use Rattle.std.proofs.Common.{sym, ◌∙◌}
use Rattle.rq_cells.specs.Wanted.{wish_of}
use Rattle.rq_cells.proofs.WantedCells.{headed_is_long}
use Rattle.rq_cells.proofs.NotedHeads.{other_noted}
use Rattle.rq_cells.proofs.wanted.sight_of.Goals as goal

pub returns-then-not-wants-clause-sight : goal.returns-then-not-wants-clause-sight
returns-then-not-wants-clause-sight c =
    let w = wish_of c.args.wanted.now in
    let bytes = c.args.bytes.now in
    let h = c.args.head in
    other_noted w bytes (headed_is_long w.key bytes h c.requires) h c.requires (sym c.wants.ensures ∙ c.if-not-wants.true)
