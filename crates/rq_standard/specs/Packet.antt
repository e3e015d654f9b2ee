-- Packets and their bytes (RFC 6330, 3.2 and 4.4.2). A number is written with its most significant byte first.
use Rattle.std.specs.Prelude.{ℕ, ◌+◌, ◌*◌, ◌/◌, ◌%◌, ◌^◌, ◌<◌, List, ◌++◌, take, drop}
use Rattle.std.specs.Int.{w32, to_be_bytes, from_be_bytes}

-- which symbol of which source block a packet carries
pub record SymbolId : Type 0 where
  pub block : ℕ
  pub esi : ℕ

-- an encoding packet
pub record Packet : Type 0 where
  pub id : SymbolId
  pub payload : List ℕ

-- one byte of block number and three of encoding symbol id
abbrev pub id_number : SymbolId → ℕ
id_number i = i.block * 2 ^ 24 + i.esi

abbrev pub id_bytes : SymbolId → List ℕ
id_bytes i = to_be_bytes w32 (id_number i)

-- the id that four bytes spell
unfoldable pub id_of_bytes : List ℕ → SymbolId
id_of_bytes bytes = record { block = from_be_bytes w32 bytes / 2 ^ 24; esi = from_be_bytes w32 bytes % 2 ^ 24 }

-- an id whose numbers fit their bytes
pub record IsSymbolId (i : SymbolId) : Type 0 where
  pub block_fits : i.block < 2 ^ 8
  pub esi_fits : i.esi < 2 ^ 24

abbrev pub packet_bytes : Packet → List ℕ
packet_bytes p = id_bytes p.id ++ p.payload

-- the packet that four bytes and more spell
unfoldable pub packet_of_bytes : List ℕ → Packet
packet_of_bytes bytes = record { id = id_of_bytes (take 4 bytes); payload = drop 4 bytes }
