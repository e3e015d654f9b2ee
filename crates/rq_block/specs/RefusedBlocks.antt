-- What coders of a block refuse, in the order of the tests.
use Rattle.std.specs.Prelude.{◌≡◌, ℕ, ◌+◌, ◌/◌, ◌%◌, ◌^◌, length, Result, Ok, Err, if◌then◌else◌, ◌==◌, ◌&&◌, not, nat_lt}
use Rattle.rq_bytes.specs.declared.error.Error.{Error}
use Rattle.rq_bytes.specs.declared.error.Error.TheVariants.{BlockOverTable, UnknownBlock, WrongPayloadSize, WrongDataLength, EsiTooLarge}
use Rattle.rq_bytes.specs.Refusals.{and_then}
use Rattle.rq_base.specs.RefusedInput.{checked_symbols}
use Rattle.rq_standard.specs.Packet.{Packet}
use Rattle.rq_standard.specs.Configuration.{Configuration}
use Rattle.rq_standard.specs.ReceivedBlock.{ReceivedBlock}

-- whether the decoder of a block of `source_symbols` symbols (K) is made
abbrev pub checked_block : ℕ → Configuration → ℕ → Result (Unit {0}) Error
checked_block greatest c source_symbols =
    and_then (checked_symbols c) (λ _. if nat_lt greatest source_symbols then Err BlockOverTable else Ok tt)

-- how many source symbols a number of bytes is, where a table has a row for them
abbrev pub wanted_count : ℕ → Configuration → ℕ → Result ℕ Error
wanted_count greatest c bytes =
    and_then (checked_symbols c) (λ _.
    if not (bytes % c.symbol_size == 0) then Err WrongDataLength
    else if nat_lt greatest (bytes / c.symbol_size) then Err BlockOverTable
    else Ok (bytes / c.symbol_size))

-- a number of bytes is that of whole symbols of a block for which a table has a row
abbrev pub AreWholeSymbols : ℕ → Configuration → ℕ → Type 0
AreWholeSymbols greatest c bytes = wanted_count greatest c bytes ≡ Ok (bytes / c.symbol_size)

-- whether a packet's payload has the size of a symbol
abbrev pub size_refusal : Configuration → Packet → Result (Unit {0}) Error
size_refusal c p = if not (length p.payload == c.symbol_size) then Err WrongPayloadSize else Ok tt

-- whether the decoder of a block takes a packet: the block's number comes first
abbrev pub block_refusal : ReceivedBlock → Packet → Result (Unit {0}) Error
block_refusal h p = if not (p.id.block == h.number) then Err UnknownBlock else size_refusal h.configuration p

-- whether n repair packets from one on have ids, in a block of `count` source symbols
abbrev pub repair_refusal : ℕ → ℕ → ℕ → Result (Unit {0}) Error
repair_refusal count start n = if nat_lt 0 n && nat_lt (2 ^ 24) (count + start + n) then Err EsiTooLarge else Ok tt
