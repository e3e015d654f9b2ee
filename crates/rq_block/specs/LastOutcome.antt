-- What is kept of the last attempt to answer a block.
use Rattle.std.specs.Prelude.{Option, Some, None, Result, Ok, Err}
use Rattle.rq_bytes.specs.declared.error.Error.{Error}
use Rattle.rq_bytes.specs.declared.error.Error.TheVariants.{Contradiction}
use Rattle.rq_block.specs.declared.decoder.last_outcome.LastOutcome.{LastOutcome}
use Rattle.rq_block.specs.declared.decoder.last_outcome.LastOutcome.TheVariants.{Untried, Undetermined, Contradictory}

-- what it found, by its answer: where there is a block or no memory, the next one tries again
abbrev pub outcome_of : {V : Type 0} → Result (Option V) Error → LastOutcome
outcome_of (Ok None) = Undetermined
outcome_of (Ok (Some block)) = Untried
outcome_of (Err Contradiction) = Contradictory
outcome_of (Err e) = Untried

-- what is still so once a payload of a new id was received: with it the payloads may determine the block, but what is contradictory stays so
abbrev pub after_new_payload : LastOutcome → LastOutcome
after_new_payload Untried = Untried
after_new_payload Undetermined = Untried
after_new_payload Contradictory = Contradictory
