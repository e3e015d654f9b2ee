-- Which coders are kept, behind pointers that may be null.
use Rattle.std.specs.Prelude.{Option, Some, None, IsSomeAnd, option_and_then}
use Rattle.std.specs.Arc.{arc_value}
use Rattle.rq_block.specs.SourceBlockEncoder.{BlockEncoded, block_encoded_of}
use Rattle.rq_block.specs.SourceBlockEncodingPlan.{Plan, plan_of}
use Rattle.raptorq.specs.Encoder.{Encoded, encoded_of}
use Rattle.raptorq.specs.InTurn.{KeptBlock, block_of}
use Rattle.raptorq.specs.declared.decoder.object.Decoder.{Decoder}
use Rattle.raptorq_c.specs.declared.kept.Coder.{Coder}
use Rattle.raptorq_c.specs.declared.kept.Coder.TheVariants.{Encoder as EncoderCoder, Plan as PlanCoder, BlockEncoder as BlockEncoderCoder, Decoder as DecoderCoder, BlockDecoder as BlockDecoderCoder}
use Rattle.raptorq_c.specs.declared.kept.Kept.{Kept}
use Rattle.raptorq_c.specs.declared.slot.Slot.{Slot}

-- ---- by its kind

abbrev pub encoder_in : Coder → Option Encoded
encoder_in (EncoderCoder a) = Some (encoded_of (arc_value a))
encoder_in _ = None

abbrev pub plan_in : Coder → Option Plan
plan_in (PlanCoder a) = Some (plan_of (arc_value a))
plan_in _ = None

abbrev pub block_encoder_in : Coder → Option BlockEncoded
block_encoder_in (BlockEncoderCoder a) = Some (block_encoded_of (arc_value a))
block_encoder_in _ = None

abbrev pub decoder_in : Coder → Option Decoder
decoder_in (DecoderCoder d) = Some d
decoder_in _ = None

abbrev pub block_decoder_in : Coder → Option KeptBlock
block_decoder_in (BlockDecoderCoder b) = Some (block_of b)
block_decoder_in _ = None

-- ---- what is kept

abbrev pub kept_coder : Kept → Option Coder
kept_coder k = k.value

-- of a kind
abbrev pub kept_as : {X : Type 0} → (Coder → Option X) → Kept → Option X
kept_as kind k = option_and_then kind (kept_coder k)

-- one is kept before and after, and changes so
abbrev pub Changes : {X : Type 0} → Option X → Option X → (X → X → Type 0) → Type 0
Changes before after P = IsSomeAnd before (λ old. IsSomeAnd after (P old))

-- ---- behind a pointer, if it isn't null

abbrev pub coder_at : Slot → Option Coder
coder_at s = option_and_then kept_coder s.value

abbrev pub slot_as : {X : Type 0} → (Coder → Option X) → Slot → Option X
slot_as kind s = option_and_then kind (coder_at s)
