-- What a run made is put in its place.
use Rattle.std.proofs.Common.{◌≡◌, ◌⊎◌, ℕ, ◌+◌, ◌<◌, Bool, true, Result, Ok, Err, IfOk, IfErr, OnOk, is_ok, inl, inr, sym, subst, ap, ◌∙◌, arith}
use Rattle.rq_streams.specs.declared.counted.Counted.{Counted}
use Rattle.rq_streams.specs.declared.run.Stop.{Stop}
use Rattle.rq_streams.specs.declared.run.Stop.TheVariants.{Fault}
use Rattle.rq_streams.specs.Counted.{failed_count}
use Rattle.rq_cast.specs.declared.output.Output.{Output}
use Rattle.rq_cast.specs.Output.{CountsLost, counting}
use Rattle.rq_devices.specs.Failed.{FailsPutting, StopsReading}
use Rattle.rq_devices.specs.Placed.{Contents}

-- it is, or couldn't be
abbrev pub IsPutFrom : {X : Type 0} → Bool → Result X Stop → Result X Stop → Type 0
IsPutFrom is_whole made put = (made ≡ put) ⊎ ((is_whole ≡ true) × (put ≡ Err Fault))

-- what is put there was whole
pub whole_from : {X : Type 0} (is_whole : Bool) (made put : Result X Stop) (x : X) → put ≡ Ok x → is_whole ≡ is_ok made → IsPutFrom is_whole made put
    → is_whole ≡ true
whole_from is_whole made put x is whole (inl same) = whole ∙ ap is_ok (same ∙ is)
whole_from is_whole made put x is whole (inr stopped) = stopped.0

-- what is so of what was read and written is so of what was to be read, and of what stands there
module _ {X : Type 0} (input read blank there then : Contents) (is_whole : Bool) (made put : Result X Stop) (is_read : read ≡ input) (is_there : there ≡ blank) where
  pub made_put : (P : Contents → Contents → Contents → X → Type 0) (new : Contents) (x : X) → put ≡ Ok x → IsPutFrom is_whole made put
      → IfOk made (P read there then) → new ≡ then → P input blank new x
  made_put P new x is (inl same) holds is_new =
      subst (λ (n : Contents). P input blank n x) (sym is_new)
      (subst (λ (t : Contents). P input t then x) is_there
      (subst (λ (i : Contents). P i there then x) is_read
      (subst (λ (r : Result X Stop). IfOk r (P read there then)) (same ∙ is) holds)))
  made_put P new x is (inr stopped) holds is_new = absurd (cc (is, stopped.1))

  pub made_stops : (P : Contents → Contents → Contents → Stop → Type 0) (stop : Stop) → put ≡ Err stop → IsPutFrom is_whole made put
      → IfErr made (P read there then) → StopsReading stop ⊎ P input blank then stop
  made_stops P stop is (inl same) holds =
      inr (subst (λ (t : Contents). P input t then stop) is_there
      (subst (λ (i : Contents). P i there then stop) is_read
      (subst (λ (r : Result X Stop). IfErr r (P read there then)) (same ∙ is) holds)))
  made_stops P stop is (inr stopped) holds = let fault : Fault ≡ stop = cc (is, stopped.1) in inl (subst StopsReading fault tt)

-- its failed calls
module _ {X R W : Type 0} (reader reader' : Counted R) (output output' : Output W) (is_whole : Bool) (made put : Result X Stop) (n : ℕ)
    (unread : failed_count reader ≡ 0) (unwritten : failed_count (counting output) ≡ 0) (from : IsPutFrom is_whole made put)
    (fails : FailsPutting is_whole put n) where
  abbrev all : ℕ
  all = failed_count reader' + (failed_count (counting output') + n)

  abbrev FailsMore : Type 0
  FailsMore = failed_count reader + failed_count (counting output) < failed_count reader' + failed_count (counting output')

  pub fault_counted : (Counts : Stop → Type 0) → (Counts Fault → FailsMore) → (stop : Stop) → put ≡ Err stop → IfErr made Counts → stop ≡ Fault → 0 < all
  fault_counted Counts more stop is counts fault = elim from [
    | inl same ↦
        let of_fault : Counts Fault = subst Counts fault (subst (λ (e : Result X Stop). IfErr e Counts) (same ∙ is) counts) in
        let failed : FailsMore = more of_fault in omega (arith, failed, unread, unwritten)
    | inr stopped ↦
        let put_so : FailsPutting {X = X} true (Err Fault) n =
        subst (λ (b : Bool). FailsPutting {X = X} b (Err Fault) n) stopped.0 (subst (λ (r : Result X Stop). FailsPutting is_whole r n) stopped.1 fails) in
        omega (arith, put_so.1)
  ]

  pub none_counted : (x : X) → put ≡ Ok x → is_whole ≡ is_ok made → OnOk made (failed_count reader' ≡ failed_count reader)
      → OnOk made (CountsLost output output' 0 0) → all ≡ 0
  none_counted x is whole reads writes = elim from [
    | inl same ↦
        let made_is : made ≡ Ok x = same ∙ is in
        let read : failed_count reader' ≡ failed_count reader =
        subst (λ (r : Result X Stop). OnOk r (failed_count reader' ≡ failed_count reader)) made_is reads in
        let wrote : CountsLost output output' 0 0 = subst (λ (r : Result X Stop). OnOk r (CountsLost output output' 0 0)) made_is writes in
        let is_true : is_whole ≡ true = whole ∙ ap is_ok made_is in
        let none : n ≡ 0 =
        subst (λ (b : Bool). FailsPutting {X = X} b (Ok x) n) is_true (subst (λ (r : Result X Stop). FailsPutting is_whole r n) is fails) in
        omega (arith, read, wrote.failed, none, unread, unwritten)
    | inr stopped ↦ absurd (cc (is, stopped.1))
  ]
