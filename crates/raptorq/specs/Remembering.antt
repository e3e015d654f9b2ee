-- What the decoder of an object remembers of its attempts to answer blocks.
use Rattle.std.specs.Prelude.{◌≡◌, ◌≢◌, ℕ, List, Option, None, Result, OnOk, IfErr}
use Rattle.rq_bytes.specs.declared.error.Error.{Error}
use Rattle.rq_bytes.specs.declared.error.Error.TheVariants.{Contradiction}
use Rattle.rq_standard.specs.Packet.{Packet}
use Rattle.rq_standard.specs.ReceivedBlock.{ReceivedBlock}
use Rattle.rq_block.specs.declared.decoder.last_outcome.LastOutcome.TheVariants.{Undetermined, Contradictory}
use Rattle.rq_block.specs.Remembering.{IsStillFound}
use Rattle.rq_block.specs.SourceBlockDecoder.{Solving}
use Rattle.raptorq.specs.declared.decoder.object.Decoder.{Decoder}
use Rattle.raptorq.specs.Decoder.{state_of, solving_at}

-- Of a packet's block, by what the call returned, what was received of it before and then, and its answer. Where the packet is taken and leaves
-- it without an answer, an attempt found that what was received doesn't determine it. With an error that is no contradiction, what was found
-- before of a block without an answer is still so, and one that was found contradictory has received nothing more.
pub record RemembersHere {X : Type 0} (old : ReceivedBlock) (before : Solving) (result : Result X Error) (new : ReceivedBlock)
    (answer : Option (List ℕ)) (after : Solving) : Type 0 where
  pub undetermined : OnOk result (answer ≡ None → after.last_outcome ≡ Undetermined)
  pub contradictory : IfErr result (λ e. e ≡ Contradiction → after.last_outcome ≡ Contradictory)
  pub kept : IfErr result (λ e. e ≢ Contradiction → answer ≡ None → IsStillFound old before new after)
  pub settled : IfErr result (λ e. e ≢ Contradiction → answer ≡ None → before.last_outcome ≡ Contradictory → new ≡ old)
  pub threshold : after.sparse_threshold ≡ before.sparse_threshold

-- what is remembered of the packet's block; of the other blocks all stays
pub record Remembers {X : Type 0} (old : Decoder) (p : Packet) (result : Result X Error) (new : Decoder) : Type 0 where
  pub here : let n = p.id.block in
      RemembersHere ((state_of old).received n) (solving_at old n) result ((state_of new).received n) ((state_of new).answer n) (solving_at new n)
  pub others : (n : ℕ) → n ≢ p.id.block → solving_at new n ≡ solving_at old n
