use Rattle.std.proofs.Common.{length, drop}
use Rattle.std.proofs.KnownBytes.{starts_with_rest}
use Rattle.rq_cells.specs.Cells.{cell_bytes}
use Rattle.rq_cells.proofs.CellBytes.{cell_at-written}
use Rattle.rq_cells.proofs.laws.cells_are_written.Goals as goal

pub returns : goal.returns
returns c = λ key cell bytes is. (drop (length (cell_bytes key cell)) bytes, starts_with_rest bytes (cell_bytes key cell) (cell_at-written key bytes cell is))
