-- How many cells are counted in what is read.
use Rattle.std.specs.Prelude.{◌≡◌, ℕ, ◌≤◌, List, length, Option}
use Rattle.std.specs.Io.KnownBytes.{Consumes}
use Rattle.rq_cells.specs.declared.cell.Cell.{Cell}
use Rattle.rq_cells.specs.Found.{Source, cells_in}
use Rattle.rq_cast.specs.Searching.{counted}
use Rattle.rq_guard.specs.declared.reading.CellPass.{CellPass}
use Rattle.rq_guard.specs.Reading.{HasPassed, IsRead}

-- All is read, and so many cells of a source are in it, at all places.
pub record CountsCells (s : Source) (before after : Option (List ℕ)) (cells : ℕ) : Type 0 where
  pub past : List ℕ
  pub read : Consumes before after past
  pub whole : IsRead past after
  pub count : cells ≡ counted (length (cells_in s past))

-- As many were found so far, by so many reads.
pub record HasCounted (s : Source) (before after : Option (List ℕ)) (reads : ℕ) (pass : CellPass) (cells : ℕ) : Type 0 where
  pub past : List ℕ
  pub came : List Cell
  pub read : Consumes before after past
  pub many : reads ≤ length past
  pub passed : HasPassed s past came pass
  pub count : cells ≡ counted (length came)
