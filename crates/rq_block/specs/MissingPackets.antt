-- How many packets a block needs besides those that were received.
use Rattle.std.specs.Prelude.{◌≡◌, ◌⊎◌, ℕ, ◌-◌, ◌^◌, ◌<◌, ◌≤◌, max, true, List, length, Contains, Option, Some, None, MatchOption}
use Rattle.rq_standard.specs.ReceivedBlock.{ReceivedBlock, has_received, CanAnswer, IsContradictory}
use Rattle.rq_block.specs.Payloads.{missing_count}
use Rattle.rq_block.specs.declared.decoder.last_outcome.LastOutcome.{LastOutcome}
use Rattle.rq_block.specs.declared.decoder.last_outcome.LastOutcome.TheVariants.{Untried, Undetermined, Contradictory}

-- how many encoding symbol ids were received, of the 2^24 that there are
abbrev pub received_count : ReceivedBlock → ℕ
received_count h = 2 ^ 24 - missing_count (2 ^ 24) (has_received h)

-- what was received of the same block later: each of its ids was received before or is a new one
pub record IsReceivedWith (before : ReceivedBlock) (new : List ℕ) (later : ReceivedBlock) : Type 0 where
  pub row : later.row ≡ before.row
  pub source_symbols : later.source_symbols ≡ before.source_symbols
  pub ids : (e : ℕ) → has_received later e ≡ true → (has_received before e ≡ true) ⊎ Contains new e

-- with fewer than n ids more, whichever they are, there is no answer
abbrev pub NeedsMore : ReceivedBlock → ℕ → Type 0
NeedsMore h n = (new : List ℕ) (later : ReceivedBlock) → length new < n → IsReceivedWith h new later → ¬ CanAnswer later

-- as many ids as there are source symbols, less those that were received; or one, where enough were received and there is no answer
abbrev pub IsMissing : ReceivedBlock → ℕ → Type 0
IsMissing h n = (n ≡ h.source_symbols - received_count h) ⊎ ((n ≡ 1) × (h.source_symbols ≤ received_count h) × ¬ CanAnswer h)

-- that number of packets, or nothing where what was received is contradictory
abbrev pub TellsMissing : ReceivedBlock → Option ℕ → Type 0
TellsMissing h missing = MatchOption missing (IsContradictory h) (IsMissing h)

-- which of these it is, by what the last attempt to answer the block found
abbrev pub missing_after : LastOutcome → ReceivedBlock → Option ℕ
missing_after Untried h = Some (h.source_symbols - received_count h)
missing_after Undetermined h = Some (max (h.source_symbols - received_count h) 1)
missing_after Contradictory h = None
