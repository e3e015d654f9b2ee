-- How many calls failed, and what stops reading.
use Rattle.std.specs.Prelude.{◌≡◌, ⊤, ℕ, ◌+◌, ◌≤◌, Bool, true, false, Option, Some, None, Result, Ok, Err}
use Rattle.rq_bytes.specs.declared.error.Error.TheVariants.{OutOfMemory}
use Rattle.rq_streams.specs.declared.run.Stop.{Stop}
use Rattle.rq_streams.specs.declared.run.Stop.TheVariants.{Fault, Refused}

-- so many more, where that is known
abbrev pub Fails : Option ℕ → Option ℕ → ℕ → Type 0
Fails None new n = ⊤
Fails (Some old) new n = new ≡ Some (old + n)

-- a call failed, or memory is refused
abbrev pub StopsReading : Stop → Type 0
StopsReading Fault = ⊤
StopsReading (Refused e) = e ≡ OutOfMemory

-- So many failed as something was put in its place that is whole, or taken away.
abbrev pub FailsPutting : {X : Type 0} → Bool → Result X Stop → ℕ → Type 0
FailsPutting false result n = n ≤ 1
FailsPutting true (Ok x) n = n ≡ 0
FailsPutting true (Err stop) n = (stop ≡ Fault) × (n ≡ 1)
