-- Cells: packets of parts of a stream that say whose they are, with checks, so that each can be read alone.
use Rattle.std.specs.Prelude.{◌≡◌, ℕ, ◌+◌, ◌^◌, ◌<◌, List, [], ◌∷◌, ◌++◌, length, take, drop, Option, Some, None, option_and_then, if◌then◌else◌, nat_eq}
use Rattle.std.specs.Int.{w32, to_be_bytes, from_be_bytes}
use Rattle.std.specs.List.{starts_with, concat}
use Rattle.sha2.specs.Sha512.{sha512}
use Rattle.rq_hmac.specs.Hmac.{hmac_sha512}
use Rattle.rq_standard.specs.Packet.{packet_bytes, packet_of_bytes, id_bytes, IsSymbolId}
use Rattle.rq_standard.specs.Configuration.{Configuration, IsConfiguration, header_bytes, configuration_of_bytes}
use Rattle.rq_standard.specs.Streams.{frame_size}
use Rattle.rq_cells.specs.declared.head.Head.{Head}
use Rattle.rq_cells.specs.declared.cell.Cell.{Cell}

-- ---- checks

-- the bytes of a key, or no key
abbrev pub Key : Type 0
Key = Option (List ℕ)

-- by SHA-512, and with a key by HMAC-SHA-512 (RFC 2104)
abbrev pub code_of : Key → List ℕ → List ℕ
code_of None bytes = sha512 bytes
code_of (Some key) bytes = hmac_sha512 key bytes

-- eight bytes by which damage shows, and with a key what its holder didn't make
abbrev pub check_of : Key → List ℕ → List ℕ
check_of key bytes = take 8 (code_of key bytes)

-- ---- names

-- what stands for a symbol: the first 32 bytes of its SHA-512
abbrev pub digest_of : List ℕ → List ℕ
digest_of symbol = take 32 (sha512 symbol)

-- a part's name, by its number, its configuration, and the digests of its source symbols, block by block
abbrev pub part_name : ℕ → Configuration → List (List ℕ) → List ℕ
part_name number c digests = take 16 (sha512 (to_be_bytes w32 number ++ header_bytes c ++ concat digests))

-- ---- what is written

-- "RQC", and the number of this format
abbrev pub mark : List ℕ
mark = 82 ∷ 81 ∷ 67 ∷ 2 ∷ []

-- what a head says
abbrev pub head_fields : Head → List ℕ
head_fields h = mark ++ h.stream ++ to_be_bytes w32 h.number ++ h.name ++ header_bytes h.configuration

-- whose cell it is: 52 bytes, which all cells of a part begin with
abbrev pub head_bytes : Key → Head → List ℕ
head_bytes key h = head_fields h ++ check_of key (head_fields h)

-- what a cell's check is over: its symbol is there by its digest
abbrev pub cell_fields : Key → Cell → List ℕ
cell_fields key c = head_bytes key c.head ++ id_bytes c.packet.id ++ digest_of c.packet.payload

-- head, packet and check, of one length for all cells of a part: 64 bytes and a symbol
abbrev pub cell_bytes : Key → Cell → List ℕ
cell_bytes key c = head_bytes key c.head ++ packet_bytes c.packet ++ check_of key (cell_fields key c)

abbrev pub head_size : ℕ
head_size = 52

-- where symbols have so many bytes
abbrev pub cell_size : ℕ → ℕ
cell_size symbol_size = 64 + symbol_size

-- the most bytes that a cell may have: its symbol has at most 65,535
abbrev pub greatest_cell_size : ℕ
greatest_cell_size = 65599

-- parts that fit a head
pub record IsHead (h : Head) : Type 0 where
  pub stream : length h.stream ≡ 8
  pub number : h.number < 2 ^ 32
  pub name : length h.name ≡ 16
  pub configuration : IsConfiguration h.configuration

-- parts that fit a cell
pub record IsCell (c : Cell) : Type 0 where
  pub head : IsHead c.head
  pub id : IsSymbolId c.packet.id
  pub payload : length c.packet.payload ≡ c.head.configuration.symbol_size

-- ---- what bytes begin with

-- the head that bytes spell, if they begin with one
abbrev pub head_spelled : List ℕ → Head
head_spelled bytes = record {
  stream = take 8 (drop 4 bytes);
  number = from_be_bytes w32 (take 4 (drop 12 bytes));
  name = take 16 (drop 16 bytes);
  configuration = configuration_of_bytes (take 12 (drop 32 bytes));
}

-- the head whose bytes these begin with
abbrev pub head_at : Key → List ℕ → Option Head
head_at key bytes = if starts_with nat_eq bytes (head_bytes key (head_spelled bytes)) then Some (head_spelled bytes) else None

-- the cell that bytes with this head spell, if they begin with one
abbrev pub cell_spelled : Head → List ℕ → Cell
cell_spelled h bytes = record { head = h; packet = packet_of_bytes (take (frame_size h.configuration) (drop head_size bytes)) }

abbrev pub cell_behind : Key → Head → List ℕ → Option Cell
cell_behind key h bytes = if starts_with nat_eq bytes (cell_bytes key (cell_spelled h bytes)) then Some (cell_spelled h bytes) else None

-- the cell whose bytes these begin with
abbrev pub cell_at : Key → List ℕ → Option Cell
cell_at key bytes = option_and_then (λ h. cell_behind key h bytes) (head_at key bytes)
