-- Cells side by side, which are made one step after another.
use Rattle.std.specs.Prelude.{◌≡◌, ℕ, ◌+◌, ◌-◌, ◌<◌, ◌≤◌, All, List, [], length, map, take, drop, slice_index_or, vec_items}
use Rattle.rq_standard.specs.Streams.{frame_size}
use Rattle.raptorq.specs.Encoder.{Encoded, IsFrameIn}
use Rattle.rq_cells.specs.declared.head.Head.{Head}
use Rattle.rq_cells.specs.Cells.{Key, digest_of, head_size}
use Rattle.rq_cast.specs.declared.sending.rows.Row.{Row}
use Rattle.rq_cast.specs.Sent.{Sending, sent_id, IsSentCell}
use Rattle.rq_cast.specs.Writing.{IsRoom}

-- each is written over another
abbrev pub AreRooms : Key → Head → List (List ℕ) → Type 0
AreRooms key h cells = All (IsRoom key h) cells

-- the packet behind the head of a cell, and the digest of its symbol
abbrev pub packet_in : Encoded → List ℕ → List ℕ
packet_in e cell = take (frame_size e.configuration) (drop head_size cell)

abbrev pub symbol_digest : Encoded → List ℕ → List ℕ
symbol_digest e cell = digest_of (drop 4 (packet_in e cell))

-- it is that of an encoding symbol id of a block
abbrev pub HasPacket : Encoded → ℕ → ℕ → List ℕ → Type 0
HasPacket e block esi cell = IsFrameIn e block esi (packet_in e cell)

-- that of the cell of a number
abbrev pub HasPacketOf : Sending → ℕ → List ℕ → Type 0
HasPacketOf s number cell = HasPacket s.encoded (sent_id s number).block (sent_id s number).esi cell

-- those of the cells of the numbers from one on
abbrev pub HavePackets : Sending → ℕ → List (List ℕ) → Type 0
HavePackets s first cells = (j : ℕ) → j < length cells → HasPacketOf s (first + j) (slice_index_or cells j [])

-- the digests of the symbols in cells
abbrev pub AreSymbolDigests : Encoded → List (List ℕ) → List (List ℕ) → Type 0
AreSymbolDigests e cells digests = (j : ℕ) → j < length cells → slice_index_or digests j [] ≡ symbol_digest e (slice_index_or cells j [])

-- the cells of the numbers from one on
abbrev pub AreSentCells : Sending → ℕ → List (List ℕ) → Type 0
AreSentCells s first cells = (j : ℕ) → j < length cells → IsSentCell s (first + j) (slice_index_or cells j [])

-- a row has room for eight cells, and those of some numbers stand there
pub record HoldsCells (s : Sending) (row : Row) : Type 0 where
  pub count : length row.cells.items ≡ 8
  pub rooms : AreRooms s.key s.head (map vec_items row.cells.items)
  pub few : row.end ≤ row.from + 8
  pub there : (n : ℕ) → row.from ≤ n → n < row.end → IsSentCell s n (slice_index_or (map vec_items row.cells.items) (n - row.from) [])
