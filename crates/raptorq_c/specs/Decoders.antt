-- What decoders of objects are that C opens, and what it has them tell and write.
use Rattle.std.specs.Prelude.{◌≡◌, ◌≢◌, ◌⊎◌, ◌↔◌, ℕ, ◌≤◌, Bool, ◌&&◌, not, List, [], length, replicate, is_some, Option, Some, None}
use Rattle.rq_standard.specs.Configuration.{configuration_of_bytes}
use Rattle.rq_standard.specs.DecoderState.{State, IsNewState, result_of}
use Rattle.rq_standard.specs.DecoderSteps.{IsBlockContradictory}
use Rattle.rq_standard.specs.Following.{FollowsRun}
use Rattle.rq_block.specs.declared.encoder.TheConstants.{SPARSE_MATRIX_THRESHOLD}
use Rattle.rq_block.specs.MissingPackets.{NeedsMore}
use Rattle.rq_block.specs.SourceBlockDecoder.{unsolved}
use Rattle.raptorq.specs.BlockBytes.{answered_part, AnswersPart, PartsMakeObject}
use Rattle.raptorq.specs.Decoder.{state_of, solving_of_blocks, missing_of}
use Rattle.raptorq.specs.Unanswered.{TellsMissingOf}
use Rattle.raptorq.specs.declared.decoder.object.Decoder.{Decoder}
use Rattle.rq_rows.specs.FullTable.{full_rows}
use Rattle.raptorq_c.specs.ObjectBuffers.{Answered, IsFilled}

-- A decoder of this configuration, to which nothing came yet. No block was tried, and each has the default threshold.
pub record IsNewDecoder (header : List ℕ) (d : Decoder) : Type 0 where
  pub new : IsNewState full_rows (configuration_of_bytes header) (state_of d)
  pub follows : FollowsRun full_rows [] (state_of d)
  pub solving : solving_of_blocks d ≡ replicate (configuration_of_bytes header).source_blocks (unsolved SPARSE_MATRIX_THRESHOLD)

-- whether a block's bytes are there, and whether they are and weren't before
abbrev pub has_block : State → ℕ → Bool
has_block s block = is_some (answered_part s block)

abbrev pub gets_block : State → State → ℕ → Bool
gets_block old new block = not (has_block old block) && has_block new block

-- What a call answers and writes of a block: how many packets it needs more (0), or nothing. 14 says that there is no such block, and 22 that it is contradictory.
pub record WritesMissing (d : Decoder) (block answer before after : ℕ) : Type 0 where
  pub number : (answer ≡ 0) ⊎ (answer ≡ 14) ⊎ (answer ≡ 22)
  pub unknown : (answer ≡ 14) ↔ ((state_of d).configuration.source_blocks ≤ block)
  pub value : answer ≡ 0 → missing_of d block ≡ Some after
  pub told : answer ≡ 0 → TellsMissingOf ((state_of d).received block) ((state_of d).answer block) (Some after)
  pub needed : answer ≡ 0 → NeedsMore ((state_of d).received block) after
  pub found : answer ≡ 22 → missing_of d block ≡ None
  pub contradictory : answer ≡ 22 → IsBlockContradictory (state_of d) block
  pub kept : answer ≢ 0 → after ≡ before

-- what a decoder has of a block: its bytes of the object, exactly where its packets determine it, and all blocks' are the object
pub record IsPartOf (s : State) (block : ℕ) (part : Option (List ℕ)) : Type 0 where
  pub value : part ≡ answered_part s block
  pub object : AnswersPart s block part
  pub whole : PartsMakeObject s

-- What a call answers and does to a buffer: it is filled with the object's bytes in a block (0), or is as it was. 14 says that there is no such block.
pub record FillsWithBlock (s : State) (block answer : ℕ) (before after : List ℕ) : Type 0 where
  pub number : (answer ≡ 14) ⊎ IsFilled answer
  pub unknown : (answer ≡ 14) ↔ (s.configuration.source_blocks ≤ block)
  pub answered : Answered answer before after (IsPartOf s block)
  pub kept : answer ≢ 0 → after ≡ before

-- What a call answers and does to a buffer: it is filled with the object (0), exactly where it has its length, or is as it was.
pub record FillsWithResult (s : State) (answer : ℕ) (before after : List ℕ) : Type 0 where
  pub number : IsFilled answer
  pub written : answer ≡ 0 → Some after ≡ result_of s
  pub fits : answer ≡ 0 → length before ≡ s.configuration.transfer_length
  pub other_length : answer ≡ 24 → length before ≢ s.configuration.transfer_length
  pub incomplete : (answer ≡ 25) ↔ (result_of s ≡ None)
  pub kept : answer ≢ 0 → after ≡ before
