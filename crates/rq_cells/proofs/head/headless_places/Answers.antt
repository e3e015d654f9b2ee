use Rattle.std.proofs.Common.{sym, subst}
use Rattle.rq_cells.specs.Found.{HoldNoHead}
use Rattle.rq_cells.proofs.Scanning.{headless_by}
use Rattle.rq_cells.proofs.head.headless_places.Goals as goal

pub returns : goal.returns
returns c =
    subst (HoldNoHead c.args.bytes.now) (sym c.unwrap_or.ensures)
    (headless_by c.args.bytes.now c.saturating_sub-long.result c.saturating_sub-long.ensures c.memchr.result c.memchr.ensures)
