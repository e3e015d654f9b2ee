-- Failed calls as a file is mended.
use Rattle.std.proofs.Common.{◌≡◌, ◌⊎◌, ℕ, ◌+◌, ◌≤◌, Bool, true, false, Result, Ok, Err, inl, inr, subst, ap, ◌∙◌, arith}
use Rattle.rq_streams.specs.declared.run.Stop.{Stop}
use Rattle.rq_streams.specs.declared.run.Stop.TheVariants.{Fault, Refused}
use Rattle.rq_streams.specs.Ends.{failed_calls}
use Rattle.rq_devices.specs.Failed.{FailsPutting}
use Rattle.rq_guard_runs.specs.Guards.{FailsMending, is_mended}

pub fails_mending : (ended result : Result Bool Stop) (n more : ℕ) → n ≡ failed_calls ended
    → (ended ≡ result) ⊎ ((is_mended ended ≡ true) × (result ≡ Err Fault)) → FailsPutting (is_mended ended) result more → FailsMending result (n + more)
fails_mending ended (Ok true) n more count (inl same) fails =
    let none : more ≡ 0 = subst (λ (r : Result Bool Stop). FailsPutting {X = Bool} (is_mended r) (Ok true) more) same fails in
    let before : n ≡ 0 = count ∙ ap failed_calls same in omega (arith, none, before)
fails_mending ended (Ok false) n more count (inl same) fails =
    let few : more ≤ 1 = subst (λ (r : Result Bool Stop). FailsPutting {X = Bool} (is_mended r) (Ok false) more) same fails in
    let before : n ≡ 0 = count ∙ ap failed_calls same in omega (arith, few, before)
fails_mending ended (Err Fault) n more count (inl same) fails =
    let before : n ≡ 1 = count ∙ ap failed_calls same in omega (arith, before)
fails_mending ended (Err (Refused e)) n more count (inl same) fails = tt
fails_mending ended (Ok mended) n more count (inr stopped) fails = absurd (cc stopped.1)
fails_mending ended (Err Fault) n more count (inr stopped) fails =
    let put : FailsPutting {X = Bool} true (Err Fault) more = subst (λ (b : Bool). FailsPutting {X = Bool} b (Err Fault) more) stopped.0 fails in
    omega (arith, put.1)
fails_mending ended (Err (Refused e)) n more count (inr stopped) fails = tt
