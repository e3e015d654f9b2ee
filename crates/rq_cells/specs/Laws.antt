-- What cells promise together.
use Rattle.std.specs.Prelude.{◌≡◌, ◌<◌, ℕ, List, [], ◌++◌, length, drop, filter, Some, Contains}
use Rattle.rq_cells.specs.declared.head.Head.{Head}
use Rattle.rq_cells.specs.declared.cell.Cell.{Cell}
use Rattle.rq_cells.specs.Cells.{Key, IsCell, cell_bytes, cell_at, cell_size}
use Rattle.rq_cells.specs.Found.{Source, source_of, all_cells_in, cells_in}
use Rattle.rq_cells.specs.Wanted.{Wish, is_wanted, IsFirstWanted}

-- a cell is read as it was written, whatever stands behind it
abbrev pub CellsAreRead : Type 0
CellsAreRead = (key : Key) (cell : Cell) (rest : List ℕ) → IsCell cell → cell_at key (cell_bytes key cell ++ rest) ≡ Some cell

-- bytes in which a cell is read begin with that cell's bytes
abbrev pub CellsAreWritten : Type 0
CellsAreWritten = (key : Key) (cell : Cell) (bytes : List ℕ) → cell_at key bytes ≡ Some cell → (rest : List ℕ) × (bytes ≡ cell_bytes key cell ++ rest)

-- a cell that stands anywhere in bytes is found
abbrev pub CellsAreFound : Type 0
CellsAreFound = (key : Key) (before : List ℕ) (cell : Cell) (rest : List ℕ) → IsCell cell → Contains (all_cells_in key (before ++ cell_bytes key cell ++ rest)) cell

-- and among those of its stream
abbrev pub StreamCellsAreFound : Type 0
StreamCellsAreFound =
    (key : Key) (before : List ℕ) (cell : Cell) (rest : List ℕ) → IsCell cell
    → Contains (cells_in (source_of key cell.head) (before ++ cell_bytes key cell ++ rest)) cell

-- bytes that are shorter than a cell hold none
abbrev pub ShortBytesHoldNone : Type 0
ShortBytesHoldNone = (s : Source) (bytes : List ℕ) → length bytes < cell_size s.symbol_size → cells_in s bytes ≡ []

-- the cells of a stream that are wanted
abbrev pub wanted_in : Wish → Source → List ℕ → List Cell
wanted_in w s bytes = filter (λ c. is_wanted w c.head) (cells_in s bytes)

-- before the first wanted cell stands no wanted one of its stream, whatever comes behind the bytes
abbrev pub NothingBeforeFirst : Type 0
NothingBeforeFirst =
    (w : Wish) (bytes rest : List ℕ) (at : ℕ) (h : Head) → IsFirstWanted w bytes at h
    → wanted_in w (source_of w.key h) (bytes ++ rest) ≡ wanted_in w (source_of w.key h) (drop at bytes ++ rest)
