-- Where the source symbols of a block stand.
use Rattle.std.specs.Prelude.{ℕ, List, Option}
use Rattle.rq_standard.specs.Received.{or_later}
use Rattle.rq_block.specs.Payloads.{payload_of}
use Rattle.rq_block.specs.declared.decoder.source_symbols.SourceSymbols.{SourceSymbols}

-- the symbol of an id, among those that were received or among the lost ones
abbrev pub source_symbol : SourceSymbols → ℕ → Option (List ℕ)
source_symbol s e = or_later (payload_of s.received.now e) (payload_of s.lost.now e)
