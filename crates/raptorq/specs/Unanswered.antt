-- What is said of a block of an object by what was received of it and its answer.
use Rattle.std.specs.Prelude.{◌≡◌, ℕ, List, Option, Some, MatchOption, None}
use Rattle.rq_standard.specs.ReceivedBlock.{ReceivedBlock, has_received, ReceivedDetermine, IsHomogeneous}
use Rattle.rq_standard.specs.Headline.{known_ids}
use Rattle.rq_block.specs.MissingPackets.{TellsMissing, missing_after}
use Rattle.rq_block.specs.declared.decoder.last_outcome.LastOutcome.{LastOutcome}

-- how many packets it needs, by what the last attempt to answer it found, and 0 where it has an answer
abbrev pub missing_in : Option (List ℕ) → LastOutcome → ReceivedBlock → Option ℕ
missing_in None outcome h = missing_after outcome h
missing_in (Some block) outcome h = Some 0

-- what that number says: of a block without an answer what `TellsMissing` does, and 0 of one with an answer
abbrev pub TellsMissingOf : ReceivedBlock → Option (List ℕ) → Option ℕ → Type 0
TellsMissingOf h answer missing = MatchOption answer (TellsMissing h missing) (λ _. missing ≡ Some 0)

-- a column of octets, of a block without an answer; where there is none, what was received determines a block without an answer
abbrev pub ShowsUnanswered : ReceivedBlock → Option (List ℕ) → Option (List ℕ) → Type 0
ShowsUnanswered h answer column =
    MatchOption column (answer ≡ None → ReceivedDetermine h)
    (λ xs. (answer ≡ None) × IsHomogeneous h.row (known_ids h.row h.source_symbols (has_received h)) xs)
