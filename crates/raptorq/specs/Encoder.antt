-- What the encoder of an object shows.
use Rattle.std.specs.Prelude.{◌≡◌, ℕ, ◌+◌, ◌*◌, ◌<◌, ◌^◌, List, [], length, map, Result, Ok, Err, if◌then◌else◌, nat_lt, slice_index_or}
use Rattle.rq_bytes.specs.declared.error.Error.{Error}
use Rattle.rq_bytes.specs.declared.error.Error.TheVariants.{UnknownBlock, EsiTooLarge}
use Rattle.rq_bytes.specs.SymbolSlab.{Slab}
use Rattle.rq_standard.specs.declared.row.TableRow.{TableRow}
use Rattle.rq_standard.specs.TableRows.{no_row}
use Rattle.rq_standard.specs.Configuration.{Configuration, total_symbols}
use Rattle.rq_standard.specs.Streams.{frame_size}
use Rattle.rq_standard.specs.Packet.{SymbolId, Packet, packet_bytes}
use Rattle.rq_standard.specs.Headline.{IsPacketOf}
use Rattle.rq_standard.specs.ObjectPackets.{AreEncoded}
use Rattle.rq_standard.specs.Cutting.{block_symbols}
use Rattle.rq_block.specs.SourceBlockEncoder.{BlockEncoded, block_encoded_of, slabs_of}
use Rattle.raptorq.specs.BlocksEncoded.{new_block_encoded}
use Rattle.raptorq.specs.declared.encoder.Encoder.{Encoder}

-- how an object is cut, and what is encoded of each of its blocks
pub record Encoded : Type 0 where
  pub configuration : Configuration
  pub block : ℕ → BlockEncoded

-- a block that the object hasn't
abbrev pub no_block : ℕ → ℕ → BlockEncoded
no_block number size = record { number = number; row = no_row; size = size; source = [] }

abbrev pub encoded_of : Encoder → Encoded
encoded_of e = record { configuration = e.config; block = λ b. slice_index_or (map block_encoded_of e.blocks.items) b (no_block b e.config.symbol_size) }

-- the slabs of its blocks, which `==` compares
abbrev pub block_slabs_of : Encoder → List (Slab × Slab)
block_slabs_of e = map slabs_of e.blocks.items

-- an encoder of this object, over this table
pub record IsEncoderOf (table : List TableRow) (object : List ℕ) (e : Encoded) : Type 0 where
  pub long : length object ≡ e.configuration.transfer_length
  pub block : (b : ℕ) → b < e.configuration.source_blocks → e.block b ≡ new_block_encoded table e.configuration object b

-- the source packets of the object whose encoder it is, and `repair` repair packets a block
abbrev pub ArePacketsOf : Encoded → ℕ → List Packet → Type 0
ArePacketsOf e repair packets = (table : List TableRow) (object : List ℕ) → IsEncoderOf table object e → AreEncoded table e.configuration object repair packets

-- a packet of the object whose encoder it is
abbrev pub IsPacketIn : Encoded → Packet → Type 0
IsPacketIn e p = (table : List TableRow) (object : List ℕ) → IsEncoderOf table object e → IsPacketOf table e.configuration object p

-- bytes are the packet of an encoding symbol id of a block of that object
pub record IsFrameIn (e : Encoded) (block esi : ℕ) (bytes : List ℕ) : Type 0 where
  pub packet : Packet
  pub id : packet.id ≡ record { block = block; esi = esi }
  pub of_object : IsPacketIn e packet
  pub long : length bytes ≡ frame_size e.configuration
  pub spelled : bytes ≡ packet_bytes packet

-- an id, unless its block is none of the object's
abbrev pub id_in : Configuration → SymbolId → Result SymbolId Error
id_in c i = if nat_lt i.block c.source_blocks then Ok i else Err UnknownBlock

-- whether packets of `repair` repair symbols a block have ids: the first block is the largest
abbrev pub packets_refusal : Configuration → ℕ → Result (Unit {0}) Error
packets_refusal c repair = if nat_lt (2 ^ 24) (block_symbols c 0 + repair) then Err EsiTooLarge else Ok tt

-- how many bytes they take with the source packets
abbrev pub packets_length : Configuration → ℕ → ℕ
packets_length c repair = (total_symbols c + c.source_blocks * repair) * frame_size c
