-- What the check leaves to show of `row_selection::FirstPhaseRowSelectionStats::swap_columns`.
use Rattle.rq_peeling.proofs.RowCounts.{columns_kept}
use Rattle.rq_peeling.proofs.row_selection.FirstPhaseRowSelectionStats.swap_columns.Goals as goal

pub returns-clause-counted : goal.returns-clause-counted
returns-clause-counted c = columns_kept c.args.self.now c.args.i c.args.j c.requires.first.0 c.requires.first.1 c.requires.second.0 c.requires.second.1
