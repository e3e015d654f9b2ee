-- What decoders of blocks are that C opens, and what it has them tell and write.
use Rattle.std.specs.Prelude.{◌≡◌, ◌≢◌, ◌⊎◌, ℕ, List, Option, Some, None, Result}
use Rattle.std.specs.Int.{div_ceil}
use Rattle.rq_bytes.specs.declared.error.Error.{Error}
use Rattle.rq_standard.specs.Configuration.{configuration_of_bytes}
use Rattle.rq_standard.specs.ReceivedBlock.{IsContradictory}
use Rattle.rq_standard.specs.TableRows.{greatest_size}
use Rattle.rq_block.specs.MissingPackets.{NeedsMore}
use Rattle.rq_block.specs.RefusedBlocks.{checked_block}
use Rattle.raptorq.specs.InTurn.{KeptBlock, new_block}
use Rattle.raptorq.specs.Unanswered.{TellsMissingOf, missing_in}
use Rattle.rq_rows.specs.FullTable.{full_rows}
use Rattle.raptorq_c.specs.ObjectBuffers.{Answered, IsFilled}

-- how many source symbols cover so many bytes of a block
abbrev pub symbols_over : List ℕ → ℕ → ℕ
symbols_over header bytes = div_ceil bytes (configuration_of_bytes header).symbol_size

-- whether the decoder of a block of so many bytes is made
abbrev pub checked_length : List ℕ → ℕ → Result (Unit {0}) Error
checked_length header bytes = checked_block (greatest_size full_rows) (configuration_of_bytes header) (symbols_over header bytes)

-- a decoder of a block of this number and of so many bytes, to which nothing came yet
abbrev pub IsNewBlock : List ℕ → ℕ → ℕ → KeptBlock → Type 0
IsNewBlock header number bytes b = b ≡ new_block full_rows (configuration_of_bytes header) number (symbols_over header bytes)

-- What a call answers and writes: how many packets the block needs more (0), or nothing. 22 says that it is contradictory.
pub record WritesMissingOf (b : KeptBlock) (answer before after : ℕ) : Type 0 where
  pub number : (answer ≡ 0) ⊎ (answer ≡ 22)
  pub value : answer ≡ 0 → missing_in b.answer b.solving.last_outcome b.received ≡ Some after
  pub told : answer ≡ 0 → TellsMissingOf b.received b.answer (Some after)
  pub needed : answer ≡ 0 → NeedsMore b.received after
  pub found : answer ≡ 22 → missing_in b.answer b.solving.last_outcome b.received ≡ None
  pub contradictory : answer ≡ 22 → (b.answer ≡ None) × IsContradictory b.received
  pub kept : answer ≢ 0 → after ≡ before

-- What a call answers and does to a buffer: it is filled with the block (0), or is as it was.
pub record FillsWithAnswer (block : Option (List ℕ)) (answer : ℕ) (before after : List ℕ) : Type 0 where
  pub number : IsFilled answer
  pub answered : Answered answer before after (λ r. r ≡ block)
  pub kept : answer ≢ 0 → after ≡ before
