-- How a run ends.
use Rattle.std.specs.Prelude.{◌≡◌, ◌↔◌, ℕ, ◌+◌, ◌<◌, List, take, Option, Some, None, Result, Ok, Err, ◌⊎◌}
use Rattle.std.specs.Io.KnownBytes.{Keeps, Appends}
use Rattle.rq_bytes.specs.declared.error.Error.{Error}
use Rattle.rq_bytes.specs.declared.error.Error.TheVariants.{OutOfMemory}
use Rattle.rq_streams.specs.declared.counted.Counted.{Counted}
use Rattle.rq_streams.specs.declared.run.Outcome.{Outcome}
use Rattle.rq_streams.specs.declared.run.Outcome.TheVariants.{Written, Incomplete}
use Rattle.rq_streams.specs.declared.run.Stop.{Stop}
use Rattle.rq_streams.specs.declared.run.Stop.TheVariants.{Fault, Refused}
use Rattle.rq_streams.specs.Counted.{failed_count}

-- what a run is to do: write these bytes, write nothing, or refuse
abbrev pub Wanted : Type 0
Wanted = Result (Option (List ℕ)) Error

-- an answer is one that is wanted; want of memory may come before it
abbrev pub AnswersAs : {V : Type 0} → (V → Option (List ℕ)) → Result V Error → (Wanted → Type 0) → Type 0
AnswersAs view (Ok x) IsWanted = IsWanted (Ok (view x))
AnswersAs view (Err e) IsWanted = (e ≡ OutOfMemory) ⊎ IsWanted (Err e)

-- What the run answered and wrote is what is wanted, memory aside. A fault leaves a beginning of it.
abbrev pub EndsAs : Result Outcome Stop → Option (List ℕ) → Option (List ℕ) → (Wanted → Type 0) → Type 0
EndsAs (Ok Written) old new IsWanted = (bytes : List ℕ) × IsWanted (Ok (Some bytes)) × Appends old new bytes
EndsAs (Ok Incomplete) old new IsWanted = IsWanted (Ok None) × Keeps old new
EndsAs (Err Fault) old new IsWanted = Keeps old new ⊎ ((bytes : List ℕ) × (n : ℕ) × IsWanted (Ok (Some bytes)) × Appends old new (take n bytes))
EndsAs (Err (Refused e)) old new IsWanted = ((e ≡ OutOfMemory) ⊎ IsWanted (Err e)) × Keeps old new

-- what `EndsAs` says, where one thing alone is wanted
abbrev pub Ends : Result Outcome Stop → Option (List ℕ) → Option (List ℕ) → Wanted → Type 0
Ends result old new wanted = EndsAs result old new (λ w. wanted ≡ w)

-- how many calls fail in a run that ends so: the first failed call ends it
abbrev pub failed_calls : {X : Type 0} → Result X Stop → ℕ
failed_calls (Ok x) = 0
failed_calls (Err Fault) = 1
failed_calls (Err (Refused e)) = 0

-- The first failed call of a run ends it, where this stood behind its writer before and after.
pub record EndsAtFailure {R W X : Type 0} (reader : Counted R) (writer : Counted W) (result : Result X Stop)
    (reader' : Counted R) (writer' : Counted W) (before after : Option (List ℕ)) : Type 0 where
  -- reader and writer together count the failed calls
  pub counts : failed_count reader' + failed_count writer' ≡ failed_count reader + failed_count writer + failed_calls result
  -- the answer is a fault exactly where the count of one of them grew
  pub fault : (result ≡ Err Fault) ↔ ((failed_count reader < failed_count reader') ⊎ (failed_count writer < failed_count writer'))
  -- where a call of the reader failed, nothing is written
  pub unread : failed_count reader < failed_count reader' → Keeps before after

-- the outcome alone, of a run that answers how many frames it skipped beside it
abbrev pub outcome_of : Result (Outcome × ℕ) Stop → Result Outcome Stop
outcome_of (Ok ended) = Ok ended.0
outcome_of (Err stop) = Err stop
