-- What several objects that make the same packets differ by.
use Rattle.std.specs.Prelude.{◌≡◌, ◌≢◌, ℕ, ◌*◌, ◌/◌, ◌%◌, ◌<◌, true, List, length, map, slice_index, None, IsSome, if◌then◌else◌, ◌==◌, ◌&&◌, nat_lt}
use Rattle.std.specs.List.{range_with_len}
use Rattle.rq_algebra.specs.Symbols.{add_symbols}
use Rattle.rq_algebra.specs.Systems.{dot}
use Rattle.rq_standard.specs.declared.row.TableRow.{TableRow}
use Rattle.rq_standard.specs.OctetField.{octets}
use Rattle.rq_standard.specs.Packet.{Packet}
use Rattle.rq_standard.specs.Configuration.{Configuration}
use Rattle.rq_standard.specs.Cutting.{block_bytes, sub_block_size}
use Rattle.rq_standard.specs.Equations.{zero_symbol, symbol_coefficient}
use Rattle.rq_standard.specs.TableRows.{intermediate_symbols}
use Rattle.rq_standard.specs.Headline.{IsNonsingular, IsEncodingSymbol, IsHonestRun, block_source}
use Rattle.rq_standard.specs.ReceivedBlock.{has_received, ReceivedDetermine}
use Rattle.rq_standard.specs.DecoderState.{State}
use Rattle.rq_standard.specs.Following.{Lateness}
use Rattle.rq_standard.specs.Standing.{StandsForButLate}

-- the xor of two objects, byte by byte
abbrev pub xor_bytes : List ℕ → List ℕ → List ℕ
xor_bytes = add_symbols octets

-- ---- what a decoder answers

-- the ids that were received determine each block that has no answer
abbrev pub AreUnansweredDetermined : State → Type 0
AreUnansweredDetermined s = (b : ℕ) → b < s.configuration.source_blocks → s.answer b ≡ None → ReceivedDetermine (s.received b)

-- no block's row is singular
abbrev pub HasNonsingularBlocks : State → Type 0
HasNonsingularBlocks s = (b : ℕ) → b < s.configuration.source_blocks → IsNonsingular (s.received b).row

-- as many bytes as the object has
pub record IsDifference (s : State) (bytes : List ℕ) : Type 0 where
  pub long : length bytes ≡ s.configuration.transfer_length
  -- zeros in a block that is answered
  pub answered : (b i : ℕ) → b < s.configuration.source_blocks → IsSome (s.answer b) → slice_index (block_bytes s.configuration bytes b) i ≡ 0
  -- zero symbols for all ids that were received of a block whose row isn't singular
  pub zeros : (b e : ℕ) → b < s.configuration.source_blocks → IsNonsingular (s.received b).row → has_received (s.received b) e ≡ true
      → IsEncodingSymbol (s.received b).row s.configuration.symbol_size (block_source s.configuration bytes b) e (zero_symbol s.configuration.symbol_size)
  -- the bytes aren't all zeros, where no row is singular
  pub nonzero : HasNonsingularBlocks s → (i : ℕ) × (i < s.configuration.transfer_length) × (slice_index bytes i ≢ 0)

-- of a decoder that stands for a list: bytes whose xor with any object that fits the list is another one that fits it
abbrev pub MakesOthersFit : State → List ℕ → Type 0
MakesOthersFit s bytes =
    (late : ℕ → Lateness) (table : List TableRow) (object other : List ℕ) (packets : List Packet)
    → StandsForButLate late table object packets s
    → IsHonestRun table s.configuration other packets
    → IsHonestRun table s.configuration (xor_bytes other bytes) packets × (xor_bytes other bytes ≢ other)

-- ---- symbols of which only the first octet may be nonzero

-- the octet that a plain column has for an internal symbol id
abbrev pub plain_sum : TableRow → (ℕ → ℕ) → ℕ → ℕ
plain_sum row column x = dot octets (intermediate_symbols row) (symbol_coefficient row x) column

-- the block of k symbols, the first n of which have these first octets: they stand where the first sub-block has the first byte of each symbol
abbrev pub first_octets_below : Configuration → ℕ → (ℕ → ℕ) → ℕ → List ℕ
first_octets_below c k octet n =
    let z = sub_block_size c 0 in
    map (λ i. if i % z == 0 && nat_lt (i / z) n then octet (i / z) else 0) (range_with_len 0 (k * c.symbol_size))

-- and all k of which have them
unfoldable pub first_octets_block : Configuration → ℕ → (ℕ → ℕ) → List ℕ
first_octets_block c k octet = first_octets_below c k octet k
