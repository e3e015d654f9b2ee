use Rattle.rq_cells.proofs.FoundCells.{cell_found, found_of_stream}
use Rattle.rq_cells.proofs.laws.cells_are_found.Goals as goal

pub returns-clause-cells : goal.returns-clause-cells
returns-clause-cells c = cell_found

pub returns-clause-of_stream : goal.returns-clause-of_stream
returns-clause-of_stream c = found_of_stream
