-- What the decoder of an object shows.
use Rattle.std.specs.Prelude.{◌≡◌, ◌<◌, ◌≤◌, ℕ, List, Option, None, MatchOption, option_map, map, vec_items, slice_index_or}
use Rattle.rq_standard.specs.TableRows.{no_row}
use Rattle.rq_standard.specs.Configuration.{Configuration}
use Rattle.rq_standard.specs.ReceivedBlock.{ReceivedBlock, nothing_received}
use Rattle.rq_standard.specs.DecoderState.{State}
use Rattle.raptorq.specs.declared.decoder.block.ObjectBlock.{ObjectBlock}
use Rattle.raptorq.specs.declared.decoder.object.Decoder.{Decoder}
use Rattle.rq_block.specs.declared.decoder.last_outcome.LastOutcome.TheVariants.{Untried}
use Rattle.raptorq.specs.Unanswered.{missing_in}
use Rattle.rq_block.specs.SourceBlockDecoder.{Solving, received_of, solving_of}

-- the answer of a block
abbrev pub answer_of : ObjectBlock → Option (List ℕ)
answer_of b = option_map vec_items b.answer

-- what is kept of what was received of each block: nothing of those that the object has not
abbrev pub received_at : Configuration → List ObjectBlock → ℕ → ReceivedBlock
received_at c blocks n = slice_index_or (map (λ b. received_of b.decoder) blocks) n (nothing_received c n no_row 0)

abbrev pub answer_at : List ObjectBlock → ℕ → Option (List ℕ)
answer_at blocks n = slice_index_or (map answer_of blocks) n None

-- what it holds, and what it has answered
abbrev pub state_of : Decoder → State
state_of d = record { configuration = d.config; received = received_at d.config d.blocks.items; answer = answer_at d.blocks.items }

-- how its blocks are solved
abbrev pub solving_of_blocks : Decoder → List Solving
solving_of_blocks d = map (λ b. solving_of b.decoder) d.blocks.items

-- how the block of a number is: one that the object hasn't wasn't tried
abbrev pub solving_at : Decoder → ℕ → Solving
solving_at d n = slice_index_or (solving_of_blocks d) n (record { sparse_threshold = 0; last_outcome = Untried })

-- how many packets more it says that the block of a number needs
abbrev pub missing_of : Decoder → ℕ → Option ℕ
missing_of d n = missing_in (answer_at d.blocks.items n) (solving_at d n).last_outcome (received_at d.config d.blocks.items n)

-- the block of a number
pub record HoldsBlock (s : State) (number : ℕ) (block : ObjectBlock) : Type 0 where
  pub known : number < s.configuration.source_blocks
  pub received : s.received number ≡ received_of block.decoder
  pub answer : s.answer number ≡ answer_of block

-- it is found, exactly where the object has one of that number
abbrev pub IsBlockAt : State → ℕ → Option ObjectBlock → Type 0
IsBlockAt s number found = MatchOption found (s.configuration.source_blocks ≤ number) (HoldsBlock s number)
