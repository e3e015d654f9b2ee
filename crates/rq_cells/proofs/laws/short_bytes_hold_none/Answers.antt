use Rattle.rq_cells.proofs.FoundCells.{none_in_short_bytes}
use Rattle.rq_cells.proofs.laws.short_bytes_hold_none.Goals as goal

pub returns : goal.returns
returns c = none_in_short_bytes
