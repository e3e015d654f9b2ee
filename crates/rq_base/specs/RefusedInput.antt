-- What is refused of packets and configurations, in the order of the tests.
use Rattle.std.specs.Prelude.{ℕ, ◌^◌, ◌%◌, List, length, Result, Ok, Err, if◌then◌else◌, ◌==◌, ◌&&◌, not, nat_lt}
use Rattle.rq_bytes.specs.declared.error.Error.{Error}
use Rattle.rq_bytes.specs.declared.error.Error.TheVariants.{TransferTooLong, AlignmentZero, Misaligned, TooManySymbols, SymbolSizeZero, SourceBlocksZero, BlockOverTable, EsiTooLarge, PacketTooShort}
use Rattle.rq_bytes.specs.Refusals.{and_then}
use Rattle.rq_standard.specs.declared.systematic_indices.TheConstants.{MAX_SOURCE_SYMBOLS_PER_BLOCK}
use Rattle.rq_standard.specs.Packet.{SymbolId, Packet, packet_of_bytes}
use Rattle.rq_standard.specs.Configuration.{Configuration, largest_block}

-- an id, unless its encoding symbol id needs more than 24 bits
abbrev pub new_id : ℕ → ℕ → Result SymbolId Error
new_id b e = if nat_lt e (2 ^ 24) then Ok (record { block = b; esi = e }) else Err EsiTooLarge

-- a packet, unless its id isn't whole
abbrev pub read_packet : List ℕ → Result Packet Error
read_packet bytes = if nat_lt (length bytes) 4 then Err PacketTooShort else Ok (packet_of_bytes bytes)

-- the packet of a record's numbers and bytes
abbrev pub new_packet : ℕ → ℕ → List ℕ → Result Packet Error
new_packet b e payload = and_then (new_id b e) (λ id. Ok (record { id = id; payload = payload }))

-- the configuration of these numbers: F, T, Z, N and Al
abbrev pub configuration_of : ℕ → ℕ → ℕ → ℕ → ℕ → Configuration
configuration_of length size blocks sub_blocks alignment =
    record { transfer_length = length; symbol_size = size; source_blocks = blocks; sub_blocks = sub_blocks; alignment = alignment }

-- whether an alignment divides a symbol size
abbrev pub checked_alignment : ℕ → ℕ → Result (Unit {0}) Error
checked_alignment size alignment =
    if alignment == 0 then Err AlignmentZero
    else if not (size % alignment == 0) then Err Misaligned
    else Ok tt

-- whether symbols are cut in whole units of the alignment
abbrev pub checked_symbols : Configuration → Result (Unit {0}) Error
checked_symbols c = if c.symbol_size == 0 then Err SymbolSizeZero else checked_alignment c.symbol_size c.alignment

-- 65535 bytes in each of 56403 symbols of 255 blocks
abbrev pub greatest_transfer_length : ℕ
greatest_transfer_length = 942574504275

-- a configuration, whatever the table
abbrev pub new_configuration : Configuration → Result Configuration Error
new_configuration c =
    if nat_lt greatest_transfer_length c.transfer_length then Err TransferTooLong
    else and_then (checked_alignment c.symbol_size c.alignment) (λ _.
    if not (c.symbol_size == 0) && not (c.source_blocks == 0) && nat_lt MAX_SOURCE_SYMBOLS_PER_BLOCK (largest_block c) then Err TooManySymbols
    else Ok c)

-- whether coders take a configuration, over a table whose greatest row has this many symbols
abbrev pub checked_configuration : ℕ → Configuration → Result (Unit {0}) Error
checked_configuration greatest c =
    and_then (checked_symbols c) (λ _.
    if c.source_blocks == 0 then Err SourceBlocksZero
    else if nat_lt greatest (largest_block c) then Err BlockOverTable
    else Ok tt)
