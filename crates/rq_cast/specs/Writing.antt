-- What is written of one cell.
use Rattle.std.specs.Prelude.{◌≡◌, ℕ, Bool, true, false, List, length, take, Option, Result, Ok, Err}
use Rattle.std.specs.Io.KnownBytes.{Keeps, Appends}
use Rattle.rq_standard.specs.declared.row.TableRow.{TableRow}
use Rattle.rq_standard.specs.TableRows.{IsTable, greatest_size}
use Rattle.rq_standard.specs.Configuration.{IsAccepted}
use Rattle.raptorq.specs.Encoder.{Encoded, IsEncoderOf}
use Rattle.rq_streams.specs.declared.run.Stop.{Stop}
use Rattle.rq_cells.specs.declared.head.Head.{Head}
use Rattle.rq_cells.specs.Cells.{Key, head_bytes, head_size, cell_size}
use Rattle.rq_cast.specs.Parts.{source_digests}

-- Digests are those of the source symbols of the object whose encoder this is.
pub record AreDigestsIn (e : Encoded) (digests : List (List ℕ)) : Type 0 where
  pub table : List TableRow
  pub checked : IsTable table
  pub accepted : IsAccepted (greatest_size table) e.configuration
  pub object : List ℕ
  pub encoder : IsEncoderOf table object e
  pub each : digests ≡ source_digests e.configuration object

-- bytes that are as long as the cells with a head and begin with it: each is written over another
pub record IsRoom (key : Key) (h : Head) (bytes : List ℕ) : Type 0 where
  pub long : length bytes ≡ cell_size h.configuration.symbol_size
  pub headed : take head_size bytes ≡ head_bytes key h

-- a cell is written, or lost
abbrev pub WritesCell : Option (List ℕ) → Option (List ℕ) → List ℕ → Bool → Type 0
WritesCell there then bytes true = Appends there then bytes
WritesCell there then bytes false = Keeps there then

-- how many calls failed: one where a cell is lost, or where writing stops
abbrev pub failed_writes : Result Bool Stop → ℕ
failed_writes (Ok true) = 0
failed_writes (Ok false) = 1
failed_writes (Err stop) = 1

-- whether the call that begins it loses it
abbrev pub loses_cell : Result Bool Stop → Bool
loses_cell (Ok true) = false
loses_cell (Ok false) = true
loses_cell (Err stop) = false

-- how many cells are lost
abbrev pub lost_cells : Result Bool Stop → ℕ
lost_cells (Ok true) = 0
lost_cells (Ok false) = 1
lost_cells (Err stop) = 0
