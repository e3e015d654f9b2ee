-- How a file is mended: part after part, as a receiver of its stream writes it that keeps one part at a time.
use Rattle.std.specs.Prelude.{◌≡◌, ℕ, List, [], ◌++◌, length, Bool, false}
use Rattle.rq_standard.specs.declared.row.TableRow.{TableRow}
use Rattle.rq_cells.specs.declared.cell.Cell.{Cell}
use Rattle.rq_cast.specs.Windows.{Settled, Settles, CountsDropped, IsLed, HasTaken, IsSoundWindow, bytes_of, has_last}
use Rattle.rq_guard.specs.declared.mending.Mending.{Mending}

-- Of the cells of one stream that came, parts are mended one behind another, from its first one on: each is what its head says, behind those before it.
-- Where one sender made the cells, these are the parts that the cells determine. The next one's head doesn't lead by cells that determine it, whoever made
-- them.
pub record Mends (table : List TableRow) (stream : List ℕ) (came : List Cell) (bytes : List ℕ) (count : ℕ) (ended : Bool) : Type 0 where
  pub parts : List Settled
  pub settles : Settles table stream 1 came parts
  pub bytes_are : bytes ≡ bytes_of parts
  pub count_is : count ≡ length parts
  pub ended_is : ended ≡ has_last parts
  pub behind : ℕ
  pub ahead : ℕ
  pub drops : CountsDropped table 1 came parts behind ahead
  pub unled : ended ≡ false → IsLed table 1 came drops.stands parts → ⊥

-- how many parts are mended, and whether the last one is
abbrev pub mended_parts : Mending → ℕ
mended_parts m = m.window.names.count

abbrev pub has_mended_last : Mending → Bool
has_mended_last m = m.window.ended

-- it has taken these cells, and has handed out all bytes of the parts that are mended by them
pub record HasMended (table : List TableRow) (stream : List ℕ) (came : List Cell) (given : List ℕ) (m : Mending) : Type 0 where
  pub taken : HasTaken table stream 1 came given m.window
  pub none_left : m.window.ready.items ≡ []

-- coders take the heads of what it receives
abbrev pub IsSoundMending : List TableRow → Mending → Type 0
IsSoundMending table m = IsSoundWindow table m.window

-- it takes more cells, and hands out bytes
abbrev pub TakesMore : List TableRow → Mending → List Cell → List ℕ → Mending → Type 0
TakesMore table old cells bytes new =
    (stream : List ℕ) (came : List Cell) (given : List ℕ)
    → HasMended table stream came given old → HasMended table stream (came ++ cells) (given ++ bytes) new

-- so it mends what the cells determine
abbrev pub MendsWhatItTook : Type 0
MendsWhatItTook =
    (table : List TableRow) (stream : List ℕ) (came : List Cell) (given : List ℕ) (m : Mending)
    → HasMended table stream came given m → Mends table stream came given (mended_parts m) (has_mended_last m)
