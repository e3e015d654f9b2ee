-- What the decoder of a block shows.
use Rattle.std.specs.Prelude.{ℕ, List, if◌then◌else◌}
use Rattle.rq_standard.specs.declared.row.TableRow.{TableRow}
use Rattle.rq_standard.specs.Configuration.{Configuration}
use Rattle.rq_standard.specs.ReceivedBlock.{ReceivedBlock, has_received, nothing_received}
use Rattle.rq_standard.specs.TableRows.{row_of}
use Rattle.rq_block.specs.declared.decoder.block.SourceBlockDecoder.{SourceBlockDecoder}
use Rattle.rq_block.specs.declared.decoder.last_outcome.LastOutcome.{LastOutcome}
use Rattle.rq_block.specs.declared.decoder.last_outcome.LastOutcome.TheVariants.{Untried}
use Rattle.rq_block.specs.LastOutcome.{after_new_payload}
use Rattle.rq_block.specs.Payloads.{received_block}

-- what it holds
abbrev pub received_of : SourceBlockDecoder → ReceivedBlock
received_of d = received_block d.config d.number d.row.numbers d.source_symbols d.received

-- from how many symbols on it is solved over a sparse matrix, and what the last attempt to answer it found
pub record Solving : Type 0 where
  pub sparse_threshold : ℕ
  pub last_outcome : LastOutcome

abbrev pub solving_of : SourceBlockDecoder → Solving
solving_of d = record { sparse_threshold = d.sparse_threshold; last_outcome = d.last_outcome }

-- from this many symbols on, and nothing that was found is remembered
abbrev pub unsolved : ℕ → Solving
unsolved threshold = record { sparse_threshold = threshold; last_outcome = Untried }

-- from this many symbols on, and what was found stays
abbrev pub with_threshold : ℕ → Solving → Solving
with_threshold threshold s = record s { sparse_threshold = threshold }

-- what is still so of what was found, once a payload of a new id was received
abbrev pub still_found : Solving → Solving
still_found s = record s { last_outcome = after_new_payload s.last_outcome }

-- once a payload of an id was received: only one of a new id changes what was found
abbrev pub solving_after : ReceivedBlock → ℕ → Solving → Solving
solving_after h esi s = if has_received h esi then s else still_found s

-- a block of K source symbols, over its row of the table, of which nothing was received
abbrev pub empty_block : List TableRow → Configuration → ℕ → ℕ → ReceivedBlock
empty_block table c number k = nothing_received c number (row_of table k) k
