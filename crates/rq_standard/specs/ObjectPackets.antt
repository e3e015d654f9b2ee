-- The packets that an encoder makes of an object (RFC 6330, sections 4.4.2 and 5.3): source and repair symbols, block by block.
use Rattle.std.specs.Prelude.{◌≡◌, ℕ, ◌+◌, List, map, flat_map}
use Rattle.std.specs.List.{range_with_len, AllByRecursion}
use Rattle.rq_standard.specs.declared.row.TableRow.{TableRow}
use Rattle.rq_standard.specs.Configuration.{Configuration}
use Rattle.rq_standard.specs.Cutting.{block_symbols}
use Rattle.rq_standard.specs.Packet.{SymbolId, Packet}
use Rattle.rq_standard.specs.Headline.{IsPacketOf}

-- the ids of the first n symbols of a block
abbrev pub first_ids : ℕ → ℕ → List SymbolId
first_ids n b = map (λ e. record { block = b; esi = e }) (range_with_len 0 n)

-- the ids of all source symbols and of `repair` repair symbols of each block, block by block
abbrev pub packet_ids : Configuration → ℕ → List SymbolId
packet_ids c repair = flat_map (λ b. first_ids (block_symbols c b + repair) b) (range_with_len 0 c.source_blocks)

-- the packets of all source symbols and of `repair` repair symbols of each block, block by block
pub record AreEncoded (table : List TableRow) (c : Configuration) (object : List ℕ) (repair : ℕ) (packets : List Packet) : Type 0 where
  pub ids : map (λ p. p.id) packets ≡ packet_ids c repair
  pub each : AllByRecursion (IsPacketOf table c object) packets
