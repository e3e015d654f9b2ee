-- What may be cells, and which are.
use Rattle.std.specs.Prelude.{◌≡◌, ℕ, ◌+◌, ◌≤◌, List, length, take, drop, Option, Bool, is_none}
use Rattle.std.specs.Io.{StartsWith}
use Rattle.rq_cells.specs.declared.cell.Cell.{Cell}
use Rattle.rq_cells.specs.declared.long_heads.LongHead.{LongHead}
use Rattle.rq_cells.specs.Cells.{Key, head_bytes, cell_size, cell_behind}

-- as many bytes stand there as a cell with symbols of this length has
abbrev pub IsLong : ℕ → List ℕ → LongHead → Type 0
IsLong symbol_size bytes h = h.at + cell_size symbol_size ≤ length bytes

-- they begin with the head, whose symbols have this length
pub record IsHeaded (key : Key) (symbol_size : ℕ) (bytes : List ℕ) (h : LongHead) : Type 0 where
  pub long : IsLong symbol_size bytes h
  pub size : h.head.configuration.symbol_size ≡ symbol_size
  pub starts : StartsWith (drop h.at bytes) (head_bytes key h.head)

-- the bytes where its symbol stands
abbrev pub symbol_at : ℕ → List ℕ → LongHead → List ℕ
symbol_at symbol_size bytes h = take symbol_size (drop (h.at + 56) bytes)

-- its cell
abbrev pub cell_there : Key → List ℕ → LongHead → Option Cell
cell_there key bytes h = cell_behind key h.head (drop h.at bytes)

abbrev pub is_damaged_there : Key → List ℕ → LongHead → Bool
is_damaged_there key bytes h = is_none (cell_there key bytes h)
