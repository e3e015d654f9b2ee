-- How many calls failed.
use Rattle.std.proofs.Common.{◌≡◌, ℕ, ◌+◌, ◌≤◌, Option, Some, None, Result, Ok, Err, subst, ap, ◌∙◌, arith}
use Rattle.rq_streams.specs.declared.run.Stop.{Stop}
use Rattle.rq_streams.specs.declared.run.Stop.TheVariants.{Fault, Refused}
use Rattle.rq_streams.specs.Ends.{failed_calls}
use Rattle.rq_devices.specs.Failed.{Fails}

-- none failed
pub none_fails : (a : Option ℕ) → Fails a a 0
none_fails None = tt
none_fails (Some n) = let same : n ≡ n + 0 = omega arith in ap (λ k. Some k) same

-- some, and then others
pub failed_then : (a b c : Option ℕ) (m n all : ℕ) → Fails a b m → Fails b c n → m + n ≡ all → Fails a c all
failed_then None b c m n all first then is = tt
failed_then (Some x) b c m n all first then is =
    let behind : c ≡ Some (x + m + n) = subst (λ (o : Option ℕ). Fails o c n) first then in
    let same : x + m + n ≡ x + all = omega (arith, is) in behind ∙ ap (λ k. Some k) same

-- none as a run begins, some as it goes on, and others at its end
pub failed_through : (a b c d e : Option ℕ) (m n all : ℕ) → Fails a b 0 → Fails b c 0 → Fails c d m → Fails d e n → m + n ≡ all → Fails a e all
failed_through a b c d e m n all first then on last is =
    failed_then a b e 0 all all first (failed_then b c e 0 all all then (failed_then c d e m n all on last is) (omega arith)) (omega arith)

-- none, and then some
pub failed_behind : (a b c : Option ℕ) (n : ℕ) → Fails a b 0 → Fails b c n → Fails a c n
failed_behind a b c n none fails = failed_then a b c 0 n n none fails (omega arith)

-- one call at most fails
pub once : {X : Type 0} (r : Result X Stop) → failed_calls r ≤ 1
once (Ok x) = omega arith
once (Err Fault) = omega arith
once (Err (Refused e)) = omega arith
