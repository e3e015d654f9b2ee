-- What a call answers, against what it should: `wanted` is one function of the arguments that names the refusals in their order.
use Rattle.std.specs.Prelude.{◌≡◌, ◌⊎◌, List, [], ◌∷◌, Result, Ok, Err}
use Rattle.rq_bytes.specs.declared.error.Error.{Error}
use Rattle.rq_bytes.specs.declared.error.Error.TheVariants.{OutOfMemory}

-- the refusal is the wanted one, or want of memory where none is wanted
abbrev pub IsRefusal : {Y : Type 0} → Error → Result Y Error → Type 0
IsRefusal e (Ok y) = e ≡ OutOfMemory
IsRefusal e (Err wanted) = e ≡ wanted

-- An answer, seen by `view`, is the wanted one, and so is a refusal; want of memory comes only where no other refusal does.
abbrev pub IsAnswer : {X Y : Type 0} → (X → Y) → Result X Error → Result Y Error → Type 0
IsAnswer view (Ok x) wanted = wanted ≡ Ok (view x)
IsAnswer view (Err e) wanted = IsRefusal e wanted

-- An answer, seen by `view`, is the wanted one, and so is a refusal; want of memory may come where another refusal is wanted too.
abbrev pub Answers : {X Y : Type 0} → (X → Y) → Result X Error → Result Y Error → Type 0
Answers view (Ok x) wanted = wanted ≡ Ok (view x)
Answers view (Err e) wanted = (e ≡ OutOfMemory) ⊎ (wanted ≡ Err e)

-- the next step's answer, unless there is a refusal
abbrev pub and_then : {X Y : Type 0} → Result X Error → (X → Result Y Error) → Result Y Error
and_then (Ok x) f = f x
and_then (Err e) f = Err e

-- the first refusal in a list
abbrev pub first_refusal : {X : Type 0} → (X → Result (Unit {0}) Error) → List X → Result (Unit {0}) Error
first_refusal refusal [] = Ok tt
first_refusal refusal (x ∷ xs) = and_then (refusal x) (λ _. first_refusal refusal xs)
