-- What the program's words ask for, and the status that it ends with.
use Rattle.std.specs.Prelude.{◌≡◌, ℕ, ◌^◌, ◌<◌, List, [], ◌∷◌, Option, Some, None, Result, Ok, Err, codes}
use Rattle.std.specs.Str.Parse.{IsNumeral, digits_value, without_leading_plus}
use Rattle.rq_streams.specs.declared.jobs.Job.{Job}
use Rattle.rq_streams.specs.declared.jobs.Job.TheVariants.{Send, Receive}
use Rattle.rq_streams.specs.declared.run.Outcome.{Outcome}
use Rattle.rq_streams.specs.declared.run.Outcome.TheVariants.{Written, Incomplete}
use Rattle.rq_streams.specs.declared.run.Stop.{Stop}
use Rattle.rq_streams.specs.declared.run.Stop.TheVariants.{Fault, Refused}

-- a text of decimal digits, before which a plus may stand, whose number has this many bits
pub record IsNumberOf (bits : ℕ) (text : List ℕ) (n : ℕ) : Type 0 where
  pub digits : IsNumeral 10 (without_leading_plus text)
  pub value : digits_value 10 (without_leading_plus text) ≡ n
  pub fits : n < 2 ^ bits

-- the words of a job
abbrev pub AsksFor : Job → List (List ℕ) → Type 0
AsksFor (Send size repair) words = (s : List ℕ) × (r : List ℕ) × (words ≡ codes "send" ∷ s ∷ r ∷ []) × IsNumberOf 16 s size × IsNumberOf 32 r repair
AsksFor Receive words = words ≡ codes "receive" ∷ []

-- the status of a run that nothing stopped
abbrev pub outcome_status : Outcome → ℕ
outcome_status Written = 0
outcome_status Incomplete = 2

-- the status of a program that has run, or that nothing was asked of
abbrev pub status_of : Option (Result (Outcome × ℕ) Stop) → ℕ
status_of (Some (Ok ended)) = outcome_status ended.0
status_of (Some (Err Fault)) = 1
status_of (Some (Err (Refused e))) = 3
status_of None = 4
