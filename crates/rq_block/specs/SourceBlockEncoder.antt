-- What the encoder of a block shows.
use Rattle.std.specs.Prelude.{◌≡◌, ℕ, ◌<◌, ◌^◌, List, map}
use Rattle.std.specs.List.{range_with_len, AllByRecursion}
use Rattle.rq_bytes.specs.SymbolSlab.{Slab}
use Rattle.rq_standard.specs.declared.row.TableRow.{TableRow}
use Rattle.rq_standard.specs.Headline.{IsEncodingSymbol}
use Rattle.rq_standard.specs.Packet.{Packet}
use Rattle.rq_block.specs.declared.encoder.block.SourceBlockEncoder.{SourceBlockEncoder}

-- the number of a block, its row, and its source symbols with their size
pub record BlockEncoded : Type 0 where
  pub number : ℕ
  pub row : TableRow
  pub size : ℕ
  pub source : List (List ℕ)

abbrev pub block_encoded_of : SourceBlockEncoder → BlockEncoded
block_encoded_of b = record { number = b.number; row = b.row.numbers; size = b.intermediate.symbol_size; source = b.source.values }

-- the slabs of its source symbols and of its intermediate symbols, which `==` compares
abbrev pub slabs_of : SourceBlockEncoder → Slab × Slab
slabs_of b = (b.source, b.intermediate)

-- a packet of the block
pub record IsBlockPacket (b : BlockEncoded) (p : Packet) : Type 0 where
  pub number : p.id.block ≡ b.number
  pub esi : p.id.esi < 2 ^ 24
  pub symbol : IsEncodingSymbol b.row b.size b.source p.id.esi p.payload

-- the packets of a block with n encoding symbol ids from one on
pub record AreBlockPackets (b : BlockEncoded) (start n : ℕ) (packets : List Packet) : Type 0 where
  pub ids : map (λ p. p.id) packets ≡ map (λ e. record { block = b.number; esi = e }) (range_with_len start n)
  pub each : AllByRecursion (IsBlockPacket b) packets
