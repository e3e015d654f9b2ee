-- The bytes that a column makes of a block that isn't determined.
use Rattle.std.specs.Prelude.{ℕ, List, [], Option, unwrap_or}
use Rattle.rq_algebra.specs.Systems.{at}
use Rattle.rq_standard.specs.Differences.{first_octets_block, plain_sum}
use Rattle.rq_standard.specs.ReceivedBlock.{ReceivedBlock}

-- the block whose symbols begin with the octets that a column has for them; no column is one of zeros
abbrev pub octets_of_column : ReceivedBlock → Option (List ℕ) → List ℕ
octets_of_column h column = first_octets_block h.configuration h.source_symbols (plain_sum h.row (at (unwrap_or column [])))
