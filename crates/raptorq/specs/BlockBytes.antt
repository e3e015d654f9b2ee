-- The object's bytes in its blocks, and which of them a decoder has.
use Rattle.std.specs.Prelude.{◌≡◌, ℕ, ◌*◌, ◌-◌, ◌<◌, ◌≢◌, List, take, drop, Option, option_map, IsSome, IfSome}
use Rattle.rq_standard.specs.declared.row.TableRow.{TableRow}
use Rattle.rq_standard.specs.Configuration.{Configuration}
use Rattle.rq_standard.specs.Cutting.{block_symbols, symbols_before}
use Rattle.rq_standard.specs.Headline.{DetermineBlock, block_row}
use Rattle.rq_standard.specs.Packet.{Packet}
use Rattle.rq_standard.specs.Received.{has_id}
use Rattle.rq_standard.specs.DecoderState.{State, first_blocks, result_of}
use Rattle.rq_standard.specs.Following.{Lateness, Late}
use Rattle.rq_standard.specs.Standing.{StandsForButLate}

-- the object's bytes in a block, without the zeros behind the object
abbrev pub bytes_of_block : Configuration → List ℕ → ℕ → List ℕ
bytes_of_block c object b = take (block_symbols c b * c.symbol_size) (drop (symbols_before c b * c.symbol_size) object)

-- a block without the zeros behind the object
abbrev pub object_part : Configuration → ℕ → List ℕ → List ℕ
object_part c b block = take (c.transfer_length - symbols_before c b * c.symbol_size) block

-- that of a block that a decoder has answered
abbrev pub answered_part : State → ℕ → Option (List ℕ)
answered_part s b = option_map (object_part s.configuration b) (s.answer b)

-- those of all blocks one after another are the object, where each is answered
abbrev pub PartsMakeObject : State → Type 0
PartsMakeObject s = first_blocks s.configuration.source_blocks (answered_part s) ≡ result_of s

-- what is answered of a block after a list of the object's packets: the object's bytes in it, exactly where the list determines it, unless its answer is late
pub record IsPartAnswer (table : List TableRow) (c : Configuration) (object : List ℕ) (packets : List Packet)
    (b : ℕ) (late : Lateness) (answer : Option (List ℕ)) : Type 0 where
  pub part : IfSome answer (λ bytes. bytes ≡ bytes_of_block c object b)
  pub only : IsSome answer → DetermineBlock (block_row table c b) (block_symbols c b) (has_id b packets)
  pub each : late ≢ Late → DetermineBlock (block_row table c b) (block_symbols c b) (has_id b packets) → IsSome answer

-- a decoder that stands for a list, but for late blocks, has just what the list determines of a block
abbrev pub AnswersPart : State → ℕ → Option (List ℕ) → Type 0
AnswersPart s b answer =
    (table : List TableRow) (object : List ℕ) (packets : List Packet) (late : ℕ → Lateness)
    → StandsForButLate late table object packets s → b < s.configuration.source_blocks
    → IsPartAnswer table s.configuration object packets b (late b) answer
