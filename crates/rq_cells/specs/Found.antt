-- What stands in bytes, wherever it begins and whatever stands between.
use Rattle.std.specs.Prelude.{◌≡◌, ℕ, ◌<◌, ◌≤◌, List, [], ◌∷◌, length, drop, filter_map, count_by, Option, Some, None, option_and_then, if◌then◌else◌, Bool, ◌&&◌, nat_le, nat_eq, is_some, is_none}
use Rattle.std.specs.Cmp.Lexicographic.{pointwise}
use Rattle.rq_cells.specs.declared.head.Head.{Head}
use Rattle.rq_cells.specs.declared.cell.Cell.{Cell}
use Rattle.rq_cells.specs.Cells.{Key, head_size, cell_size, head_at, cell_at}

-- the bytes from each of their places on
abbrev pub places : List ℕ → List (List ℕ)
places [] = []
places (b ∷ bytes) = (b ∷ bytes) ∷ places bytes

-- At the first n places stand bytes enough for a head, and none begins.
pub record HoldNoHead (bytes : List ℕ) (n : ℕ) : Type 0 where
  pub within : n ≤ length bytes
  pub enough : (i : ℕ) → i < n → head_size ≤ length (drop i bytes)
  pub none : (key : Key) (i : ℕ) → i < n → head_at key (drop i bytes) ≡ None

-- the head at the first place from one on where one begins
abbrev pub IsNextHead : Key → List ℕ → ℕ → Option (ℕ × Head) → Type 0
IsNextHead key bytes from None = (i : ℕ) → from ≤ i → head_at key (drop i bytes) ≡ None
IsNextHead key bytes from (Some (at, h)) =
    (from ≤ at) × (head_at key (drop at bytes) ≡ Some h) × ((i : ℕ) → from ≤ i → i < at → head_at key (drop i bytes) ≡ None)

-- the cells at all places
abbrev pub all_cells_in : Key → List ℕ → List Cell
all_cells_in key bytes = filter_map (cell_at key) (places bytes)

-- ---- the cells of one stream

-- whose cells they are, of symbols of one length
pub record Source : Type 0 where
  pub key : Key
  pub stream : List ℕ
  pub symbol_size : ℕ

-- where a head and its like come from
abbrev pub source_of : Key → Head → Source
source_of key h = record { key = key; stream = h.stream; symbol_size = h.configuration.symbol_size }

-- a head of these cells
abbrev pub is_of : Source → Head → Bool
is_of s h = pointwise nat_eq h.stream s.stream && nat_eq h.configuration.symbol_size s.symbol_size

-- the head of one that bytes begin with
abbrev pub head_of : Source → List ℕ → Option Head
head_of s bytes = option_and_then (λ h. if is_of s h then Some h else None) (head_at s.key bytes)

-- as many bytes as a cell has
abbrev pub is_long : Source → List ℕ → Bool
is_long s bytes = nat_le (cell_size s.symbol_size) (length bytes)

-- the head, where so many bytes stand there
abbrev pub long_head_of : Source → List ℕ → Option Head
long_head_of s bytes = if is_long s bytes then head_of s bytes else None

-- the cell that bytes begin with
abbrev pub cell_of : Source → List ℕ → Option Cell
cell_of s bytes = option_and_then (λ c. if is_of s c.head then Some c else None) (cell_at s.key bytes)

-- a head, and as many bytes as a cell has, which are none
abbrev pub is_damaged : Source → List ℕ → Bool
is_damaged s bytes = is_some (long_head_of s bytes) && is_none (cell_of s bytes)

-- the head of another stream's cell, or of another length, whatever stands behind it
abbrev pub is_other : Source → List ℕ → Bool
is_other s bytes = is_some (head_at s.key bytes) && is_none (head_of s bytes)

-- the cells at all places
abbrev pub cells_in : Source → List ℕ → List Cell
cells_in s bytes = filter_map (cell_of s) (places bytes)

-- how many cells are damaged behind their head
abbrev pub damaged_in : Source → List ℕ → ℕ
damaged_in s bytes = count_by (is_damaged s) (places bytes)

-- how many heads are others'
abbrev pub others_in : Source → List ℕ → ℕ
others_in s bytes = count_by (is_other s) (places bytes)
