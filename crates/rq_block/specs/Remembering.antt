-- What a decoder of a block remembers where a call returns before it was tried to answer the block, or for want of memory.
use Rattle.std.specs.Prelude.{◌≡◌, ◌⊎◌, ℕ, true, false}
use Rattle.rq_standard.specs.ReceivedBlock.{ReceivedBlock, has_received}
use Rattle.rq_block.specs.SourceBlockDecoder.{Solving, still_found}

-- a payload of an id was received of which there was none before
pub record HasNewId (old new : ReceivedBlock) : Type 0 where
  pub id : ℕ
  pub missed : has_received old id ≡ false
  pub received : has_received new id ≡ true

-- Where no payload of a new id was received, what was found before is remembered; and else what is still so of it.
abbrev pub IsStillFound : ReceivedBlock → Solving → ReceivedBlock → Solving → Type 0
IsStillFound old before new after = ((new ≡ old) × (after ≡ before)) ⊎ (HasNewId old new × (after ≡ still_found before))
