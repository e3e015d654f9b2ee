-- The degree of a number below 2^20, and the ranges of a tuple.
use Rattle.std.proofs.Common.{◌≡◌, ℕ, zero, suc, ◌+◌, ◌-◌, ◌^◌, ◌≤◌, ◌<◌, true, false, ltb, List, [], ◌∷◌, length, get_or, refl, subst, arith, ⊎_elim, inl, inr, ◌⊎◌}
use Rattle.std.proofs.lemmas.Bool.{cases_Bool, ltb-true, ltb-false}
use Rattle.rq_standard.specs.declared.degrees.TheConstants.{DEGREE_STARTS}
use Rattle.rq_standard.specs.Tuple.{first_above, IsBetween}

-- either the first number is above v, or the others decide
first_above_cases : (v start : ℕ) (starts : List ℕ) → ((v < start) × (first_above v (start ∷ starts) ≡ 0)) ⊎ ((start ≤ v) × (first_above v (start ∷ starts) ≡ 1 + first_above v starts))
first_above_cases v start starts =
    ⊎_elim
    (λ (here : ltb v start ≡ true). inl (ltb-true v start here, rw here refl))
    (λ (later : ltb v start ≡ false). inr (ltb-false v start later, rw later refl))
    (cases_Bool (ltb v start))

first_above-le : (v : ℕ) (starts : List ℕ) → first_above v starts ≤ length starts
first_above-le v [] = omega arith
first_above-le v (start ∷ starts) =
    let rest = first_above-le v starts in
    elim (first_above_cases v start starts) [ inl here ↦ omega (arith, here.1) | inr later ↦ omega (arith, later.1, rest) ]

-- the number at that place is above v
above_there : (v : ℕ) (starts : List ℕ) → first_above v starts < length starts → v < get_or starts (first_above v starts) 0
above_there v [] lt = absurd (omega arith)
above_there v (start ∷ starts) lt = elim (first_above_cases v start starts) [
  | inl here ↦ rw here.1 here.0
  | inr later ↦
      let same : first_above v (start ∷ starts) ≡ suc (first_above v starts) = omega (arith, later.1) in
      rw same (above_there v starts (omega (arith, later.1)))
]

-- those before it are not
reached_before : (v : ℕ) (starts : List ℕ) (k : ℕ) → k < first_above v starts → get_or starts k 0 ≤ v
reached_before v [] k lt = absurd (omega arith)
reached_before v (start ∷ starts) zero lt = elim (first_above_cases v start starts) [ inl here ↦ absurd (omega (arith, here.1)) | inr later ↦ later.0 ]
reached_before v (start ∷ starts) (suc k) lt =
    elim (first_above_cases v start starts) [ inl here ↦ absurd (omega (arith, here.1)) | inr later ↦ reached_before v starts k (omega (arith, later.1)) ]

-- the place that a number below 2^20 has among the starts of the degrees
pub between : (v : ℕ) → v < 2 ^ 20 → IsBetween v (first_above v DEGREE_STARTS)
between v lt =
    let d = first_above v DEGREE_STARTS in
    let most : d ≤ 31 = first_above-le v DEGREE_STARTS in
    let not_all : 30 < d → ⊥ = λ all. (let reached : 1048576 ≤ v = reached_before v DEGREE_STARTS 30 all in omega arith) in
    let not_none : d ≡ 0 → ⊥ = λ none. (let above : v < get_or DEGREE_STARTS 0 0 = subst (λ (k : ℕ). v < get_or DEGREE_STARTS k 0) none (above_there v DEGREE_STARTS (let less : d < 31 = omega arith in less)) in omega arith) in
    record {
      one = omega (arith, not_none);
      last = omega (arith, not_all);
      from = reached_before v DEGREE_STARTS (d - 1) (omega (arith, not_none));
      below = above_there v DEGREE_STARTS (let less : d < 31 = omega (arith, not_all) in less);
    }
