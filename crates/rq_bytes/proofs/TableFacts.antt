-- The tables hold the powers of alpha and their exponents.
use Rattle.std.proofs.Common.{◌≡◌, ℕ, zero, suc, ◌+◌, ◌<◌, Bool, true, eqb, ltb, ◌&&◌, ◌||◌, List, [], ◌∷◌, length, get_or, refl, ap, ◌∙◌, arith, ⊎_elim}
use Rattle.std.proofs.lemmas.Bool.{agree_below, agree_below_at, and_parts, or_cases, eqb-true, ltb-true}
use Rattle.rq_standard.specs.Octets.{octet_double, octet_power}
use Rattle.rq_bytes.specs.declared.logarithms.TheConstants.{OCT_EXP, OCT_LOG}

abbrev powers_from : ℕ → List ℕ → Bool
powers_from p [] = true
powers_from p (x ∷ xs) = eqb x p && powers_from (octet_double p) xs

powers_from_at : (n : ℕ) (xs : List ℕ) (i : ℕ) → powers_from (octet_power n) xs ≡ true → i < length xs → get_or xs i 0 ≡ octet_power (n + i)
unfolding octet_power
powers_from_at n [] i e lt = absurd (omega arith)
powers_from_at n (x ∷ xs) zero e lt =
    eqb-true x (octet_power n) (and_parts (eqb x (octet_power n)) (powers_from (octet_double (octet_power n)) xs) e).0
    ∙ ap octet_power (let same : n ≡ n + 0 = omega arith in same)
powers_from_at n (x ∷ xs) (suc i) e lt =
    powers_from_at (suc n) xs i (and_parts (eqb x (octet_power n)) (powers_from (octet_double (octet_power n)) xs) e).1 (omega arith)
    ∙ ap octet_power (let same : suc n + i ≡ n + suc i = omega arith in same)

exp_is : powers_from (octet_power 0) OCT_EXP ≡ true
unfolding octet_power octet_double
exp_is = refl

pub exp_at : (i : ℕ) → i < 510 → get_or OCT_EXP i 0 ≡ octet_power i
exp_at i lt = powers_from_at 0 OCT_EXP i exp_is lt ∙ ap octet_power (let same : 0 + i ≡ i = omega arith in same)

log_is : agree_below (λ a. eqb a 0 || ltb (get_or OCT_LOG a 0) 255 && eqb (octet_power (get_or OCT_LOG a 0)) a) (λ _. true) 256 ≡ true
unfolding octet_power octet_double
log_is = refl

pub log_at : (a : ℕ) → a < 256 → (a ≡ 0 → ⊥) → (get_or OCT_LOG a 0 < 255) × (octet_power (get_or OCT_LOG a 0) ≡ a)
log_at a lt ne =
    let k = get_or OCT_LOG a 0 in
    ⊎_elim
    (λ (is : eqb a 0 ≡ true). absurd (ne (eqb-true a 0 is)))
    (λ (is : (ltb k 255 && eqb (octet_power k) a) ≡ true).
    let both = and_parts (ltb k 255) (eqb (octet_power k) a) is in
    (ltb-true k 255 both.0, eqb-true (octet_power k) a both.1))
    (or_cases (eqb a 0) (ltb k 255 && eqb (octet_power k) a)
    (agree_below_at (λ x. eqb x 0 || ltb (get_or OCT_LOG x 0) 255 && eqb (octet_power (get_or OCT_LOG x 0)) x) (λ _. true) 256 a log_is lt))
