-- What a number says of how a call ended.
use Rattle.raptorq_c.proofs.Names.{◌≡◌, ◌≢◌, ◌<◌, ℕ, Result, Ok, Err, refl, sym, ap, arith, inl, ◌≤◌, OnErr, code_of, Error, number_of, refusal_number, Fills, CallEnd}

-- The numbers of the library for C, for what the codec doesn't refuse. The codec's refusals have those below, and may have those above.
abbrev pub IsOfCalls : ℕ → Type 0
IsOfCalls number = (24 ≤ number) × (number < 32)

-- a refusal's number is neither 0 nor one of these
pub code_positive : (e : Error) → 0 < code_of e
code_positive e = grind (arith)

pub code_no_call : (e : Error) → IsOfCalls (code_of e) → ⊥
code_no_call e = grind (arith)

-- another number than 0 is answered where a call isn't done alone
pub is_stopped : (ended : Result (Unit {0}) CallEnd) (P : Type 0) → OnErr ended P → number_of ended ≢ 0 → P
is_stopped (Ok x) P stopped other = absurd (other refl)
is_stopped (Err s) P stopped other = stopped

-- ---- buffers

-- what is wanted is in a buffer
pub fills_done : {Y B : Type 0} (shown : Y → B) (wanted : Result Y Error) (before after : B) (value : Y) → wanted ≡ Ok value → after ≡ shown value → Fills shown wanted 0 before after
fills_done shown wanted before after value is spelled = record {
  number = inl (sym (ap refusal_number is));
  written = λ _. record { value = value; answered = is; spelled = spelled };
  kept = λ other. absurd (other refl);
}
