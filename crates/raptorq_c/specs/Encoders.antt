-- What encoders and plans are that C opens, and which packets it has them write.
use Rattle.std.specs.Prelude.{◌≡◌, ◌≢◌, ◌⊎◌, ℕ, ◌+◌, ◌*◌, ◌/◌, ◌%◌, ◌^◌, List, length, Result, Ok, Err, IsOkAnd, IfOk, IfErr, if◌then◌else◌, ◌==◌, not, nat_lt}
use Rattle.rq_bytes.specs.declared.error.Error.{Error}
use Rattle.rq_bytes.specs.declared.error.Error.TheVariants.{EsiTooLarge, UnknownBlock, PlanMismatch, WrongDataLength}
use Rattle.rq_bytes.specs.Error.{code_of}
use Rattle.rq_bytes.specs.Refusals.{and_then}
use Rattle.rq_base.specs.RefusedInput.{checked_symbols}
use Rattle.rq_standard.specs.Configuration.{Configuration, configuration_of_bytes}
use Rattle.rq_standard.specs.Headline.{HasNonsingularRows, IsNonsingular}
use Rattle.rq_standard.specs.TableRows.{greatest_size, row_of}
use Rattle.rq_block.specs.BlockData.{block_by_plan, block_of}
use Rattle.rq_block.specs.Planned.{IsPlanOf}
use Rattle.rq_block.specs.RefusedBlocks.{AreWholeSymbols}
use Rattle.rq_block.specs.SourceBlockEncoder.{BlockEncoded}
use Rattle.rq_block.specs.SourceBlockEncodingPlan.{Plan, plan_refusal}
use Rattle.rq_block.specs.WrittenPackets.{AreStretchBytes}
use Rattle.raptorq.specs.Encoder.{Encoded, IsEncoderOf}
use Rattle.raptorq.specs.Refused.{new_encoder}
use Rattle.rq_rows.specs.FullTable.{full_rows}

-- an encoder of this object, in the configuration that twelve bytes spell
pub record IsEncoderIn (header object : List ℕ) (e : Encoded) : Type 0 where
  pub configuration : e.configuration ≡ configuration_of_bytes header
  pub taken : new_encoder (greatest_size full_rows) (configuration_of_bytes header) (length object) ≡ Ok tt
  pub nonsingular : HasNonsingularRows full_rows (configuration_of_bytes header)
  pub encoder : IsEncoderOf full_rows object e

-- a plan of blocks of `count` source symbols
pub record IsPlanIn (count : ℕ) (p : Plan) : Type 0 where
  pub taken : plan_refusal full_rows count ≡ Ok tt
  pub nonsingular : IsNonsingular (row_of full_rows count)
  pub count_is : p.count ≡ count
  pub row : p.row ≡ row_of full_rows count
  pub plan : IsPlanOf (row_of full_rows count) p.operations

-- an encoder of the block of these bytes
pub record IsBlockEncoderIn (header : List ℕ) (number : ℕ) (block : List ℕ) (b : BlockEncoded) : Type 0 where
  pub taken : AreWholeSymbols (greatest_size full_rows) (configuration_of_bytes header) (length block)
  pub encoder : b ≡ block_of full_rows (configuration_of_bytes header) number block

-- whether a block of so many bytes is as many whole symbols as a plan is for
abbrev pub planned_refusal : Configuration → ℕ → Plan → Result (Unit {0}) Error
planned_refusal c bytes plan =
    and_then (checked_symbols c) (λ _.
    if not (bytes % c.symbol_size == 0) then Err WrongDataLength
    else if not (bytes / c.symbol_size == plan.count) then Err PlanMismatch
    else Ok tt)

-- an encoder of the block of these bytes by a plan: by one that C opened for as many symbols, the block's encoder
pub record IsPlannedEncoder (header : List ℕ) (number : ℕ) (block : List ℕ) (plan : Plan) (b : BlockEncoded) : Type 0 where
  pub taken : planned_refusal (configuration_of_bytes header) (length block) plan ≡ Ok tt
  pub encoder : b ≡ block_by_plan plan (configuration_of_bytes header) number block
  pub over : IsPlanIn plan.count plan → IsBlockEncoderIn header number block b

-- ---- packets of a stretch: encoding symbol ids one after another

-- where the stretch of `count` ids from one on ends, unless one of them is too large
abbrev pub end_of_stretch : ℕ → ℕ → Result ℕ Error
end_of_stretch first count = if nat_lt (2 ^ 24) (first + count) then Err EsiTooLarge else Ok (first + count)

-- a block of an object, unless the object hasn't it
abbrev pub block_in : Encoded → ℕ → Result BlockEncoded Error
block_in e block = if nat_lt block e.configuration.source_blocks then Ok (e.block block) else Err UnknownBlock

-- the block whose packets of a stretch are wanted, of an object's encoder, and of a block's
abbrev pub stretch_of_object : ℕ → ℕ → ℕ → Encoded → Result BlockEncoded Error
stretch_of_object block first count e = and_then (end_of_stretch first count) (λ _. block_in e block)

abbrev pub stretch_of_block : ℕ → ℕ → BlockEncoded → Result BlockEncoded Error
stretch_of_block first count b = and_then (end_of_stretch first count) (λ _. Ok b)

-- how many bytes `count` packets of a block take
abbrev pub stretch_length : BlockEncoded → ℕ → ℕ
stretch_length b count = count * (4 + b.size)

-- What a call answers and does to a buffer: it is filled with the packets of the block that is wanted (0), exactly where it has their length, or is as it was.
pub record FillsStretch (wanted : Result BlockEncoded Error) (first count answer : ℕ) (before after : List ℕ) : Type 0 where
  pub refused : IfErr wanted (λ e. answer ≡ code_of e)
  pub number : IfOk wanted (λ b. (answer ≡ 0) ⊎ (answer ≡ 24))
  pub packets : answer ≡ 0 → IsOkAnd wanted (λ b. AreStretchBytes b first count after × (length before ≡ stretch_length b count))
  pub other_length : answer ≡ 24 → IsOkAnd wanted (λ b. length before ≢ stretch_length b count)
  pub kept : answer ≢ 0 → after ≡ before
