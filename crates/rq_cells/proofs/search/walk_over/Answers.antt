use Rattle.std.proofs.Common.{subst}
use Rattle.rq_cells.specs.Wanted.{wish_of}
use Rattle.rq_cells.specs.Search.{FindsAll}
use Rattle.rq_cells.proofs.Walks.{walked_all}
use Rattle.rq_cells.proofs.search.walk_over.Goals as goal

pub returns-clause-walked : goal.returns-clause-walked
returns-clause-walked c =
    let w = wish_of c.args.wanted.now in
    let bytes = c.args.bytes.now in
    let finds = subst (FindsAll w bytes c.walk_on.new.walk) c.in_default-2.is c.in_ok-head.ensures.finds in
    walked_all w bytes c.walk_on.new.walk c.ended.result finds.0 c.ended.ensures finds.1 finds.2
