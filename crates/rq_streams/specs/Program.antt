-- What the program does that its words ask for.
use Rattle.std.specs.Prelude.{◌≡◌, ℕ, List, Option, Result, IfOk}
use Rattle.rq_standard.specs.TableRows.{built_in_rows}
use Rattle.rq_streams.specs.declared.jobs.Job.{Job}
use Rattle.rq_streams.specs.declared.jobs.Job.TheVariants.{Send, Receive}
use Rattle.rq_streams.specs.declared.run.Outcome.{Outcome}
use Rattle.rq_streams.specs.declared.run.Stop.{Stop}
use Rattle.rq_streams.specs.Ends.{outcome_of}
use Rattle.rq_streams.specs.ReceivedStreams.{Receives}
use Rattle.rq_streams.specs.Sent.{SendsAll}

-- a sender's run, which skips nothing
pub record SendsUnskipped (size repair : ℕ) (result : Result (Outcome × ℕ) Stop) (input before after : Option (List ℕ)) : Type 0 where
  pub ends : SendsAll built_in_rows size repair (outcome_of result) input before after
  pub none : IfOk result (λ ended. ended.1 ≡ 0)

-- A run that reads this input, and behind whose writer this stood before and after, does this job over the built-in rows.
abbrev pub DoesJob : Job → Result (Outcome × ℕ) Stop → Option (List ℕ) → Option (List ℕ) → Option (List ℕ) → Type 0
DoesJob (Send size repair) result input before after = SendsUnskipped size repair result input before after
DoesJob Receive result input before after = Receives built_in_rows result input before after
