-- How many packets more an object needs.
use Rattle.std.specs.Prelude.{◌≡◌, ℕ, zero, suc, ◌+◌, ◌-◌, ◌<◌, max, List, Option, Some, None, unwrap_or, IfSome}
use Rattle.rq_standard.specs.declared.row.TableRow.{TableRow}
use Rattle.rq_standard.specs.Configuration.{Configuration}
use Rattle.rq_standard.specs.Cutting.{block_symbols}
use Rattle.rq_standard.specs.Packet.{Packet}
use Rattle.rq_standard.specs.ReceivedBlock.{CanAnswer}
use Rattle.rq_standard.specs.DecoderSteps.{received_after}
use Rattle.rq_block.specs.MissingPackets.{received_count, NeedsMore}
use Rattle.raptorq.specs.declared.decoder.object.Decoder.{Decoder}
use Rattle.raptorq.specs.Decoder.{state_of, missing_of}
use Rattle.raptorq.specs.Unanswered.{TellsMissingOf}

-- of the first n blocks together
abbrev pub sum_below : (ℕ → ℕ) → ℕ → ℕ
sum_below of_block zero = 0
sum_below of_block (suc n) = sum_below of_block n + of_block n

-- of one block: none where it has an answer, and else one at least
abbrev pub needed_of : Option (List ℕ) → Option ℕ → ℕ
needed_of (Some block) missing = 0
needed_of None missing = max (unwrap_or missing 0) 1

-- what a decoder says of its blocks
abbrev pub told_of : Decoder → ℕ → ℕ
told_of d b = needed_of ((state_of d).answer b) (missing_of d b)

pub record TellsMissingPackets (d : Decoder) (missing : ℕ) : Type 0 where
  pub sum : missing ≡ sum_below (told_of d) (state_of d).configuration.source_blocks
  pub told : (b : ℕ) → b < (state_of d).configuration.source_blocks → TellsMissingOf ((state_of d).received b) ((state_of d).answer b) (missing_of d b)
  pub needed : (b : ℕ) → b < (state_of d).configuration.source_blocks → IfSome (missing_of d b) (NeedsMore ((state_of d).received b))

-- So many packets more an object needs at least behind these, none of which is refused: none of a block that they answer, and of another one as many
-- as it has source symbols more than ids that were received, or one. With fewer, whichever they are, that block has no answer.
pub record NeedsPackets (table : List TableRow) (c : Configuration) (packets : List Packet) (missing : ℕ) : Type 0 where
  pub of_block : ℕ → ℕ
  pub sum : missing ≡ sum_below of_block c.source_blocks
  pub answered : (b : ℕ) → b < c.source_blocks → CanAnswer (received_after table c b packets) → of_block b ≡ 0
  pub misses : (b : ℕ) → b < c.source_blocks → ¬ CanAnswer (received_after table c b packets)
      → of_block b ≡ max (block_symbols c b - received_count (received_after table c b packets)) 1
  pub needed : (b : ℕ) → b < c.source_blocks → ¬ CanAnswer (received_after table c b packets) → NeedsMore (received_after table c b packets) (of_block b)
