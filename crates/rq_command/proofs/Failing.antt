-- Failed calls of a run.
use Rattle.std.proofs.Common.{◌≡◌, ◌⊎◌, ℕ, ◌+◌, Option, Some, Result, Ok, Err, true, false, inl, inr, sym, subst, ap, ◌∙◌, arith, lit<}
use Rattle.std.specs.Result.{IsErrAnd}
use Rattle.std.proofs.lemmas.Result.{err_from_is_err_and}
use Rattle.rq_streams.specs.declared.run.Stop.{Stop}
use Rattle.rq_streams.specs.declared.run.Stop.TheVariants.{Fault, Refused}
use Rattle.rq_streams.specs.Ends.{failed_calls}
use Rattle.rq_cast.specs.declared.run.Ending.{Ending}
use Rattle.rq_cast.specs.declared.run.Ending.TheVariants.{Written, Incomplete, GivenUp}
use Rattle.rq_cast.specs.Received.{is_given_up}
use Rattle.rq_command.specs.declared.ending.End.{End}
use Rattle.rq_devices.specs.Failed.{Fails, FailsPutting}
use Rattle.rq_devices.proofs.Counting.{failed_then}
use Rattle.rq_command.specs.Following.{name_of, over}
use Rattle.rq_command.specs.Placed.{is_whole}
use Rattle.rq_command.specs.Program.{Failures, FailsReceiving, end_of}

-- ---- counts

-- what stopped a run that failed so often
stopped : (r : Result End Stop) (stop : Stop) (a b : Option ℕ) → r ≡ Err stop → Fails a b (failed_calls {X = ℕ} (Err stop)) → Failures (end_of r) a b
stopped r Fault a b is fails = subst (λ (e : Result End Stop). Failures (end_of e) a b) (sym is) (1, fails, lit< tt)
stopped r (Refused e) a b is fails = subst (λ (e : Result End Stop). Failures (end_of e) a b) (sym is) (0, fails, tt)

-- the same, passed on by a run in which none failed before
pub passed_on : (r : Result End Stop) (stop : Stop) (a b c : Option ℕ) → IsErrAnd r (λ s. s ≡ stop) → Fails a b 0
    → Fails b c (failed_calls {X = ℕ} (Err stop)) → Failures (end_of r) a c
passed_on r stop a b c is none fails =
    let n = failed_calls {X = ℕ} (Err stop) in
    let p = err_from_is_err_and r is in stopped r stop a c (p.1 ∙ ap (λ s. Err s) p.2) (failed_then a b c 0 n n none fails (omega arith))

-- the same, where more may have failed
pub stopped_later : (r : Result End Stop) (stop : Stop) (a b : Option ℕ) (more : ℕ) → r ≡ Err stop
    → Fails a b (failed_calls {X = ℕ} (Err stop) + more) → Failures (end_of r) a b
stopped_later r Fault a b more is fails = subst (λ (e : Result End Stop). Failures (end_of e) a b) (sym is) (1 + more, fails, omega arith)
stopped_later r (Refused e) a b more is fails = subst (λ (e : Result End Stop). Failures (end_of e) a b) (sym is) (0 + more, fails, tt)

-- ---- what is placed

-- what was received is put in its place, or couldn't be
pub fails_placing : (ended put : Result Ending Stop) (n : ℕ) → is_given_up ended ≡ false → (ended ≡ put) ⊎ ((is_whole ended ≡ true) × (put ≡ Err Fault))
    → FailsPutting (is_whole ended) put n → FailsReceiving put (failed_calls ended + n)
fails_placing (Ok (Written stream)) put n kept (inl same) fails =
    let none : n ≡ 0 = subst (λ (r : Result Ending Stop). FailsPutting {X = Ending} true r n) (sym same) fails in
    subst (λ (r : Result Ending Stop). FailsReceiving r (0 + n)) same (omega (arith, none))
fails_placing (Ok (Written stream)) put n kept (inr stopped) fails =
    let once = subst (λ (r : Result Ending Stop). FailsPutting {X = Ending} true r n) stopped.1 fails in
    subst (λ (r : Result Ending Stop). FailsReceiving r (0 + n)) (sym stopped.1) (omega (arith, once.1))
fails_placing (Ok (GivenUp stream parts missing)) put n kept same fails = absurd (cc kept)
fails_placing (Ok (Incomplete parts missing)) put n kept (inl same) fails =
    subst (λ (r : Result Ending Stop). FailsReceiving r (0 + n)) same (omega (arith, fails))
fails_placing (Ok (Incomplete parts missing)) put n kept (inr stopped) fails = absurd (cc stopped.0)
fails_placing (Err Fault) put n kept (inl same) fails = subst (λ (r : Result Ending Stop). FailsReceiving r (1 + n)) same (omega arith)
fails_placing (Err Fault) put n kept (inr stopped) fails = absurd (cc stopped.0)
fails_placing (Err (Refused e)) put n kept (inl same) fails =
    subst (λ (r : Result Ending Stop). FailsReceiving r (0 + n)) same (omega (arith, fails))
fails_placing (Err (Refused e)) put n kept (inr stopped) fails = absurd (cc stopped.0)

-- nothing more fails as it isn't taken away what was kept, or is
pub fails_no_more : (r : Result Ending Stop) (a b : Option ℕ) → Fails a b 0 → (n : ℕ) × Fails a b n × ((m : ℕ) → FailsReceiving r m → FailsReceiving r (m + n))
fails_no_more r a b none = (0, none, λ m fails. let same : m ≡ m + 0 = omega arith in subst (FailsReceiving r) same fails)

-- or that can't be
pub fails_behind : (put r : Result Ending Stop) (stop : Stop) (a b : Option ℕ) → stop ≡ Fault → r ≡ Err stop → Fails a b (failed_calls {X = ℕ} (Err stop))
    → (n : ℕ) × Fails a b n × ((m : ℕ) → FailsReceiving put m → FailsReceiving r (m + n))
fails_behind put r stop a b fault ends fails =
    let once : Fails a b 1 = subst (λ (s : Stop). Fails a b (failed_calls {X = ℕ} (Err s))) fault fails in (
      1,
      once,
      λ m before. let some : FailsReceiving (Err Fault) (m + 1) = omega arith in
          subst (λ (e : Result Ending Stop). FailsReceiving e (m + 1)) (sym (ends ∙ ap (λ s. Err s) fault)) some,
    )

-- where another stream may begin, none failed
pub over_without_fault : (ending : Ending) → over (Ok ending) ≡ Some (ending, name_of ending) → (n : ℕ) → FailsReceiving (Ok ending) n → n ≡ 0
over_without_fault (Written stream) is n fails = fails
over_without_fault (GivenUp stream parts missing) is n fails = fails
over_without_fault (Incomplete parts missing) is n fails = absurd (cc is)
