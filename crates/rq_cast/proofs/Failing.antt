-- The first failed call of a run ends it.
use Rattle.std.proofs.Common.{◌≡◌, inl, inr, ℕ, ◌+◌, ◌<◌, Result, Ok, Err, arith, refl}
use Rattle.std.specs.Prelude.{◌↔◌}
use Rattle.std.proofs.lemmas.Bool.{cases_lt}
use Rattle.rq_streams.specs.declared.counted.Counted.{Counted}
use Rattle.rq_streams.specs.Counted.{failed_count}
use Rattle.rq_streams.specs.declared.run.Stop.{Stop}
use Rattle.rq_streams.specs.declared.run.Stop.TheVariants.{Fault, Refused}
use Rattle.rq_streams.specs.Ends.{failed_calls}
use Rattle.rq_cast.specs.Received.{EndsAtFailedCall}

-- a fault is one failed call, and else none failed
one_failed : {X : Type 0} (result : Result X Stop) → (result ≡ Err Fault) ↔ (0 < failed_calls result)
one_failed (Ok x) = (λ is. absurd (cc is), λ some. absurd (omega (arith, some)))
one_failed (Err Fault) = (λ is. omega arith, λ some. refl)
one_failed (Err (Refused e)) = (λ is. absurd (cc is), λ some. absurd (omega (arith, some)))

-- so many calls of the reader failed, and so many of the writer
pub counted_calls : {R W X : Type 0} (reader reader' : Counted R) (writer writer' : Counted W) (result : Result X Stop) (reads writes : ℕ)
    → failed_count reader' ≡ failed_count reader + reads → failed_count writer' ≡ failed_count writer + writes → reads + writes ≡ failed_calls result
    → EndsAtFailedCall reader writer result reader' writer'
counted_calls reader reader' writer writer' result reads writes read written sum = record {
  counts = omega (arith, read, written, sum);
  fault = (
    λ is. let one = (one_failed result).0 is in elim (cases_lt 0 reads) [
      | inl some ↦ inl (omega (arith, read, some))
      | inr none ↦ inr (omega (arith, written, none, sum, one))
    ],
    λ grew. (one_failed result).1 (elim grew [
      | inl more ↦ omega (arith, read, sum, more)
      | inr more ↦ omega (arith, written, sum, more)
    ]),
  );
}
