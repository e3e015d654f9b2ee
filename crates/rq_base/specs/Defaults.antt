-- The parameters of an object, with what is refused in the order of the tests.
use Rattle.std.specs.Prelude.{ℕ, List, Result, Ok, Err, if◌then◌else◌, ◌==◌, nat_lt}
use Rattle.rq_bytes.specs.declared.error.Error.{Error}
use Rattle.rq_bytes.specs.declared.error.Error.TheVariants.{PacketSizeZero, TransferLengthZero, TransferTooLong, MemoryRequirementTooSmall, TooManyBlocks}
use Rattle.rq_standard.specs.declared.row.TableRow.{TableRow}
use Rattle.rq_standard.specs.Configuration.{Configuration}
use Rattle.std.specs.Int.{div_ceil}
use Rattle.rq_base.specs.RefusedInput.{greatest_transfer_length}
use Rattle.rq_standard.specs.Parameters.{IsLeast, is_fitting, symbols_for, fitting_block, most_sub_blocks, blocks_for, parameters_for}

-- 10 MiB, the decoder's memory where none is given
abbrev pub default_memory : ℕ
default_memory = 10485760

abbrev pub wanted_parameters : List TableRow → ℕ → ℕ → ℕ → Result Configuration Error
wanted_parameters rows length s memory =
    if s == 0 then Err PacketSizeZero
    else if length == 0 then Err TransferLengthZero
    else if nat_lt greatest_transfer_length length then Err TransferTooLong
    else if fitting_block rows s memory (most_sub_blocks s) == 0 then Err MemoryRequirementTooSmall
    else if nat_lt 255 (blocks_for rows length s memory) then Err TooManyBlocks
    else Ok (parameters_for rows length s memory)

-- N is the least number of sub-blocks that fit
abbrev pub HasLeastSubBlocks : List TableRow → ℕ → ℕ → ℕ → Configuration → Type 0
HasLeastSubBlocks rows length s memory c = IsLeast (is_fitting rows s memory (div_ceil (symbols_for length s) c.source_blocks)) c.sub_blocks
