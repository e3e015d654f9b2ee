-- The number of each refusal.
use Rattle.std.specs.Prelude.{ℕ}
use Rattle.rq_bytes.specs.declared.error.Error.{Error}
use Rattle.rq_bytes.specs.declared.error.Error.TheVariants.{TransferTooLong, AlignmentZero, Misaligned, TooManySymbols, SymbolSizeZero, SourceBlocksZero, BlockOverTable, WrongDataLength, Singular, PlanMismatch, EsiTooLarge, PacketTooShort, WrongPayloadSize, UnknownBlock, PacketSizeZero, TransferLengthZero, MemoryRequirementTooSmall, TooManyBlocks, RowRefused, AlreadyExecuted, OutOfMemory, Contradiction, HeaderTooShort}

abbrev pub code_of : Error → ℕ
code_of TransferTooLong = 1
code_of AlignmentZero = 2
code_of Misaligned = 3
code_of TooManySymbols = 4
code_of SymbolSizeZero = 5
code_of SourceBlocksZero = 6
code_of BlockOverTable = 7
code_of WrongDataLength = 8
code_of Singular = 9
code_of PlanMismatch = 10
code_of EsiTooLarge = 11
code_of PacketTooShort = 12
code_of WrongPayloadSize = 13
code_of UnknownBlock = 14
code_of PacketSizeZero = 15
code_of TransferLengthZero = 16
code_of MemoryRequirementTooSmall = 17
code_of TooManyBlocks = 18
code_of (RowRefused place check) = 19
code_of AlreadyExecuted = 20
code_of OutOfMemory = 21
code_of Contradiction = 22
code_of HeaderTooShort = 23
