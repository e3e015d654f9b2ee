-- Laws of a packet's block, of answers, and of how objects are cut.
use Rattle.std.specs.Prelude.{◌≡◌, ℕ, ◌<◌, ◌≤◌, List, Some, Result, Ok}
use Rattle.std.specs.Int.{div_ceil}
use Rattle.rq_bytes.specs.declared.error.Error.{Error}
use Rattle.rq_standard.specs.Configuration.{Configuration, largest_block, total_symbols}
use Rattle.rq_standard.specs.Packet.{Packet}
use Rattle.rq_standard.specs.TableRows.{greatest_size}
use Rattle.rq_base.specs.RefusedInput.{checked_configuration}
use Rattle.rq_rows.specs.FullTable.{full_rows}
use Rattle.raptorq.specs.Decoder.{state_of}
use Rattle.raptorq.specs.InTurn.{KeptBlock, block_at, TakesHere, TakesInTurn}
use Rattle.raptorq.specs.declared.decoder.object.Decoder.{Decoder}
use Rattle.raptorq_c.specs.Headers.{cut_configuration}

-- What an object's decoder does with a packet of one of its blocks, that block does with it as by itself.
abbrev pub BlockTakesIt : Type 0
BlockTakesIt =
    (old new : Decoder) (p : Packet) (result : Result (Unit {0}) Error) → p.id.block < (state_of old).configuration.source_blocks
    → TakesInTurn old p result new → TakesHere (block_at old p.id.block) p result (block_at new p.id.block)

-- A block that is answered stays as it is, whatever comes,
abbrev pub AnswerStaysHere : Type 0
AnswerStaysHere =
    (old new : KeptBlock) (p : Packet) (result : Result (Unit {0}) Error) (bytes : List ℕ) → old.answer ≡ Some bytes → TakesHere old p result new → new ≡ old

-- and so do those of an object.
abbrev pub AnswerStays : Type 0
AnswerStays =
    (old new : Decoder) (p : Packet) (result : Result (Unit {0}) Error) (n : ℕ) (bytes : List ℕ) → (state_of old).answer n ≡ Some bytes
    → TakesInTurn old p result new → block_at new n ≡ block_at old n

-- what is said of a configuration that cuts an object into blocks of at most so many symbols
pub record IsCutFor (most : ℕ) (c : Configuration) : Type 0 where
  pub bounded : largest_block c ≤ most
  pub fewest : (blocks : ℕ) → 0 < blocks → div_ceil (total_symbols c) blocks ≤ most → c.source_blocks ≤ blocks
  pub taken : checked_configuration (greatest_size full_rows) c ≡ Ok tt

-- No block has more symbols than were asked for, no fewer blocks would do, and coders take what was cut.
abbrev pub CutsAsAsked : Type 0
CutsAsAsked = (object_length symbol_size most : ℕ) (c : Configuration) → cut_configuration object_length symbol_size most ≡ Ok c → IsCutFor most c
