-- A stream of parts, one sender's cells of it, and which of them a receiver with a window takes.
use Rattle.std.specs.Prelude.{◌≡◌, ◌≢◌, ◌+◌, ℕ, ◌<◌, ◌≤◌, List, [], ◌∷◌, ◌++◌, map, All, Bool, true, false, Option, Some, None, if◌then◌else◌, ◌==◌, ◌&&◌, nat_le, nat_lt}
use Rattle.std.specs.List.{range_with_len}
use Rattle.rq_standard.specs.declared.row.TableRow.{TableRow}
use Rattle.rq_standard.specs.TableRows.{IsTable, greatest_size}
use Rattle.rq_standard.specs.Configuration.{IsAccepted}
use Rattle.rq_standard.specs.Headline.{IsHonestRun, IsAnswerable}
use Rattle.rq_cells.specs.declared.head.Head.{Head}
use Rattle.rq_cells.specs.declared.cell.Cell.{Cell}
use Rattle.rq_cast.specs.Parts.{greatest_count, IsPart}
use Rattle.rq_cast.specs.Taken.{part_index, received_packets}

-- ---- a stream

-- how many parts it has, and of each one the head of its cells, its object, and its bytes
pub record Parts : Type 0 where
  pub count : ℕ
  pub head : ℕ → Head
  pub object : ℕ → List ℕ
  pub bytes : ℕ → List ℕ

-- the names of the first n
abbrev pub names_before : Parts → ℕ → List (List ℕ)
names_before s n = map (λ i. (s.head i).name) (range_with_len 0 n)

-- Each is the part behind those before it, the last one as such, and all are of one stream. A part has bytes.
pub record AreParts (stream : List ℕ) (s : Parts) : Type 0 where
  pub some : 0 < s.count
  pub few : s.count ≤ greatest_count
  pub each : (i : ℕ) → i < s.count → IsPart (i + 1 == s.count) (names_before s i) (s.head i) (s.object i) (s.bytes i)
  pub stream_is : (i : ℕ) → i < s.count → (s.head i).stream ≡ stream
  pub full : (i : ℕ) → i < s.count → s.object i ≢ []

-- ---- one sender's cells

-- the index of the part of a cell
abbrev pub index_of : Cell → ℕ
index_of cell = part_index cell.head

-- a cell of one of the parts
abbrev pub IsCellOf : Parts → Cell → Type 0
IsCellOf s cell = (index_of cell < s.count) × (cell.head ≡ s.head (index_of cell))

-- All are cells of the parts, whose configurations coders take over a table, and carry packets of their objects.
pub record AreSenders (table : List TableRow) (stream : List ℕ) (s : Parts) (cells : List Cell) : Type 0 where
  pub checked : IsTable table
  pub are : AreParts stream s
  pub accepted : (i : ℕ) → i < s.count → IsAccepted (greatest_size table) (s.head i).configuration
  pub heads : All (IsCellOf s) cells
  pub honest : (i : ℕ) → i < s.count → IsHonestRun table (s.head i).configuration (s.object i) (received_packets (s.head i) cells)

-- ---- the window

-- what a receiver has behind some cells: the index of the first part that isn't written, and of each part the cells that came while it was in the window
pub record Reached : Type 0 where
  pub first : ℕ
  pub came : ℕ → List Cell

-- before any cell
abbrev pub reached_none : Reached
reached_none = record { first = 0; came = λ i. [] }

-- a part is in a window of so many parts from the first unwritten one on
abbrev pub is_in : ℕ → ℕ → ℕ → Bool
is_in width first i = nat_le first i && nat_lt i (first + width)

-- the cells of a part behind one more
abbrev pub came_with : ℕ → Reached → Cell → ℕ → List Cell
came_with width old cell i = if is_in width old.first i && index_of cell == i then old.came i ++ (cell ∷ []) else old.came i

-- cells determine a part
abbrev pub Determine : List TableRow → Parts → ℕ → List Cell → Type 0
Determine table s i cells = IsAnswerable table (s.head i).configuration (received_packets (s.head i) cells)

-- One more cell comes, and parts are written one behind another that are determined by the cells that came while they were in the window.
pub record Writes (table : List TableRow) (s : Parts) (width : ℕ) (old : Reached) (cell : Cell) (new : Reached) : Type 0 where
  pub came : (i : ℕ) → new.came i ≡ came_with width old cell i
  pub from : old.first ≤ new.first
  pub within : new.first ≤ s.count
  pub written : (i : ℕ) → old.first ≤ i → i < new.first → Determine table s i (new.came i)

-- so many as are
pub record Moves (table : List TableRow) (s : Parts) (width : ℕ) (old : Reached) (cell : Cell) (new : Reached) : Type 0 where
  pub writes : Writes table s width old cell new
  pub unwritten : new.first < s.count → ¬ Determine table s new.first (new.came new.first)

-- some more cells come
abbrev pub MovesOver : List TableRow → Parts → ℕ → Reached → List Cell → Reached → Type 0
MovesOver table s width old [] new = new ≡ old
MovesOver table s width old (cell ∷ cells) new = (mid : Reached) × Moves table s width old cell mid × MovesOver table s width mid cells new

-- ---- which cells the window drops

-- Where a window stands as a cell comes: at the index of the first part that isn't written, or nowhere once all parts are.
abbrev pub stand : Bool → ℕ → Option ℕ
stand true first = None
stand false first = Some first

abbrev pub stand_at : Parts → Reached → Option ℕ
stand_at s reached = stand (reached.first == s.count) reached.first

-- so as each of one sender's cells comes
abbrev pub stands_over : (table : List TableRow) (s : Parts) (width : ℕ) (old : Reached) (cells : List Cell) (new : Reached)
    → MovesOver table s width old cells new → List (Option ℕ)
stands_over table s width old [] new moves = []
stands_over table s width old (cell ∷ cells) new moves = stand_at s old ∷ stands_over table s width moves.0 cells new moves.2

-- a cell of a part that is written, and one of a part behind the window, where the window stands at a part
abbrev pub is_late : ℕ → Cell → Bool
is_late first cell = nat_lt (index_of cell) first

abbrev pub is_early : ℕ → ℕ → Cell → Bool
is_early width first cell = nat_le (first + width) (index_of cell)

-- how many of the cells are so, by where the window stood as each came
abbrev pub one_if : Bool → ℕ
one_if b = if b then 1 else 0

abbrev pub dropped_at : (ℕ → Cell → Bool) → Option ℕ → Cell → ℕ
dropped_at is None cell = 0
dropped_at is (Some first) cell = one_if (is first cell)

abbrev pub dropped_where : (ℕ → Cell → Bool) → List (Option ℕ) → List Cell → ℕ
dropped_where is [] cells = 0
dropped_where is (there ∷ stands) [] = 0
dropped_where is (there ∷ stands) (cell ∷ cells) = dropped_at is there cell + dropped_where is stands cells

-- the cells of the part of an index that came while it was in the window
abbrev pub cell_at : ℕ → ℕ → Option ℕ → Cell → List Cell
cell_at width i None cell = []
cell_at width i (Some first) cell = if is_in width first i && index_of cell == i then cell ∷ [] else []

abbrev pub cells_of : ℕ → ℕ → List (Option ℕ) → List Cell → List Cell
cells_of width i [] cells = []
cells_of width i (there ∷ stands) [] = []
cells_of width i (there ∷ stands) (cell ∷ cells) = cell_at width i there cell ++ cells_of width i stands cells
