-- What senders and receivers of cells promise together.
use Rattle.std.specs.Prelude.{◌≡◌, ◌≢◌, ℕ, ◌+◌, ◌*◌, ◌%◌, ◌<◌, ◌≤◌, Bool, ◌==◌, List, [], ◌++◌, All, Contains}
use Rattle.rq_standard.specs.declared.row.TableRow.{TableRow}
use Rattle.raptorq.specs.Encoder.{IsPacketIn}
use Rattle.rq_cells.specs.declared.head.Head.{Head}
use Rattle.rq_cells.specs.declared.cell.Cell.{Cell}
use Rattle.rq_cells.specs.Cells.{Key}
use Rattle.rq_cells.specs.Found.{source_of, cells_in}
use Rattle.rq_rows.specs.FullTable.{full_rows}
use Rattle.rq_cast.specs.declared.order.Order.{Order}
use Rattle.rq_cast.specs.Ids.{AreIds}
use Rattle.rq_cast.specs.Parts.{object_of}
use Rattle.rq_cast.specs.Rounds.{in_round, round_first}
use Rattle.rq_cast.specs.Sent.{Sending, cell_count, sent_id, IsSentCell, IsSendingOf}
use Rattle.rq_cast.specs.SentParts.{last_index, bytes_of_part, names_of, IsPreparedPart}
use Rattle.rq_cast.specs.Streams.{Parts, AreSenders}

-- a cell with its head and a packet of its object
abbrev pub IsCellFrom : Sending → Cell → Type 0
IsCellFrom s cell = (cell.head ≡ s.head) × IsPacketIn s.encoded cell.packet

-- a head of the same stream, in symbols of one length
abbrev pub IsOfStream : Sending → Head → Type 0
IsOfStream s first = (s.head.stream ≡ first.stream) × (s.head.configuration.symbol_size ≡ first.configuration.symbol_size)

-- the cell that is sent under a number is found among those of its stream, wherever it stands
abbrev pub SentCellsAreFound : Type 0
SentCellsAreFound =
    (table : List TableRow) (is_last : Bool) (names : List (List ℕ)) (object : List ℕ) (s : Sending) → IsSendingOf table is_last names object s
    → (first : Head) → IsOfStream s first
    → (i : ℕ) (sent before rest : List ℕ) → IsSentCell s i sent
    → (cell : Cell) × (cell.packet.id ≡ sent_id s i) × IsCellFrom s cell × Contains (cells_in (source_of s.key first) (before ++ sent ++ rest)) cell

-- the parts of these bytes that are sent so, of which one is the last
abbrev pub parts_sent : (ℕ → Sending) → ℕ → (ℕ → List ℕ) → Parts
parts_sent of last bytes = record {
  count = last + 1;
  head = λ i. (of i).head;
  object = λ i. object_of (i == last) (names_of of i) (bytes i);
  bytes = bytes;
}

-- Over a table each part is sent behind those before it.
abbrev pub SendAllParts : List TableRow → (ℕ → Sending) → ℕ → (ℕ → List ℕ) → Type 0
SendAllParts table of last bytes =
    (i : ℕ) → i ≤ last → IsSendingOf table (i == last) (names_of of i) (object_of (i == last) (names_of of i) (bytes i)) (of i)

-- Each but the last one has bytes.
abbrev pub HaveBytes : ℕ → (ℕ → List ℕ) → Type 0
HaveBytes last bytes = (i : ℕ) → i < last → bytes i ≢ []

-- the cells that they send, whichever come, in whatever order and however often, are one sender's
abbrev pub SentAreOneSenders : Type 0
SentAreOneSenders =
    (table : List TableRow) (of : ℕ → Sending) (last : ℕ) (bytes : ℕ → List ℕ) → SendAllParts table of last bytes → HaveBytes last bytes
    → (cells : List Cell) → All (λ cell. (i : ℕ) × (i ≤ last) × IsCellFrom (of i) cell) cells
    → AreSenders table (of 0).head.stream (parts_sent of last bytes) cells

-- What makes the parts of an input ready, up to the last one, sends them over all rows, in cells of one stream that are of one length.
pub record SendOverAllRows (of : ℕ → Sending) (last : ℕ) (bytes : ℕ → List ℕ) : Type 0 where
  pub sends : SendAllParts full_rows of last bytes
  pub have_bytes : HaveBytes last bytes
  pub one_stream : (i j : ℕ) → i ≤ last → j ≤ last → IsOfStream (of i) (of j).head

abbrev pub PreparedPartsAreSent : Type 0
PreparedPartsAreSent =
    (order : Order) (key : Key) (input : List ℕ) (of : ℕ → Sending)
    → ((i : ℕ) → i ≤ last_index order.part input → IsPreparedPart order key input of i (of i))
    → SendOverAllRows of (last_index order.part input) (bytes_of_part order.part input)

-- The cells that are sent of an input in any rounds, whichever come, in whatever order and however often, are one sender's.
abbrev pub RoundsAreOneSenders : Type 0
RoundsAreOneSenders =
    (order : Order) (key : Key) (input : List ℕ) (of : ℕ → ℕ → Sending)
    → ((round i : ℕ) → i ≤ last_index order.part input → IsPreparedPart (in_round order round) key input (of round) i (of round i))
    → (cells : List Cell) → All (λ cell. (round : ℕ) × (i : ℕ) × (i ≤ last_index order.part input) × IsCellFrom (of round i) cell) cells
    → AreSenders full_rows (of 0 0).head.stream (parts_sent (of 0) (last_index order.part input) (bytes_of_part order.part input)) cells

-- ---- the order of a part's cells

-- Each id of each block is sent, and once.
pub record SendsEachOnce (s : Sending) : Type 0 where
  pub each :
      (block k : ℕ) → block < s.encoded.configuration.source_blocks → k < s.series.count
      → (i : ℕ) × (i < cell_count s) × (sent_id s i ≡ record { block = block; esi = s.series.first + s.series.step * k })
  pub once : (i j : ℕ) → i < cell_count s → j < cell_count s → sent_id s i ≡ sent_id s j → i ≡ j

abbrev pub EachIsSentOnce : Type 0
EachIsSentOnce = (s : Sending) → 0 < s.series.step → SendsEachOnce s

-- ---- the ids of rounds

-- The first round begins at the first id. Each one behind it sends the ids that follow where all of them have 24 bits, and else begins at the least id.
pub record FollowEachOther (first step count : ℕ) : Type 0 where
  pub begins : round_first first step count 0 ≡ first
  pub next :
      (round : ℕ) → AreIds (round_first first step count round + step * count) step count
      → round_first first step count (round + 1) ≡ round_first first step count round + step * count
  pub again :
      (round : ℕ) → (AreIds (round_first first step count round + step * count) step count → ⊥)
      → round_first first step count (round + 1) ≡ first % step

abbrev pub RoundsFollow : Type 0
RoundsFollow = (first step count : ℕ) → 0 < step → 0 < count → AreIds first step count → FollowEachOther first step count
