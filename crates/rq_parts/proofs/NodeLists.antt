-- Numbers that don't fall, each once.
use Rattle.std.proofs.Common.{◌≡◌, ◌≢◌, ℕ, ◌+◌, ◌-◌, ◌<◌, ◌≤◌, ◌↔◌, List, [], ◌∷◌, ◌++◌, length, map, get_or, refl, sym, ap, ◌∙◌, subst, arith, inl, inr}
use Rattle.std.proofs.lemmas.Bool.{cases_eq}
use Rattle.std.specs.List.{Contains}
use Rattle.std.specs.List.Sorted.{IsStrictlyIncreasing, IsNonDecreasing, IsNonDecreasingBy}
use Rattle.std.proofs.lemmas.List.{length-append, length-map, get_or_append_left, get_or-append_right, get_or-map, get_or_default}
use Rattle.std.proofs.lemmas.List.Elements.{Contains-append_left, Contains-push, Contains-push_cases, Contains-get_or}

-- the different ones of the first i numbers
pub record AreDistinctOf (numbers : List ℕ) (i : ℕ) (distinct : List ℕ) : Type 0 where
  pub ascending : IsStrictlyIncreasing distinct
  pub known : (k : ℕ) → k < i → Contains distinct (get_or numbers k 0)
  pub from : (n : ℕ) → Contains distinct n → Contains numbers n
  pub last : 0 < length distinct → (0 < i) × (get_or distinct (length distinct - 1) 0 ≡ get_or numbers (i - 1) 0)

-- a number that is there already
pub distinct_known :
    {numbers distinct : List ℕ} {i : ℕ} (x : ℕ) → AreDistinctOf numbers i distinct → x ≡ get_or numbers i 0 → (0 < length distinct) × (get_or distinct (length distinct - 1) 0 ≡ x)
    → AreDistinctOf numbers (i + 1) distinct
distinct_known {numbers} {distinct} {i} x before is there =
    let found : Contains distinct (get_or distinct (length distinct - 1) 0) = Contains-get_or distinct (length distinct - 1) 0 (omega (arith, there.0)) in
    let same : i + 1 - 1 ≡ i = omega arith in
    record {
      ascending = before.ascending;
      known = λ k lt. elim (cases_eq k i) [
        | inl e ↦ subst (Contains distinct) (there.1 ∙ is ∙ ap (λ n. get_or numbers n 0) (sym e)) found
        | inr d ↦ before.known k (omega arith)
      ];
      from = before.from;
      last = λ some. (omega arith, there.1 ∙ is ∙ ap (λ n. get_or numbers n 0) (sym same));
    }

-- and one that isn't
pub distinct_more :
    {numbers distinct : List ℕ} {i : ℕ} (x : ℕ) → IsNonDecreasing numbers → i < length numbers → AreDistinctOf numbers i distinct → x ≡ get_or numbers i 0
    → ((0 < length distinct) × (get_or distinct (length distinct - 1) 0 ≡ x) → ⊥) → AreDistinctOf numbers (i + 1) (distinct ++ x ∷ [])
distinct_more {numbers} {distinct} {i} x rise lt before is not_last =
    let n = length distinct in
    let long : length (distinct ++ x ∷ []) ≡ n + 1 = length-append distinct (x ∷ []) in
    let own : get_or (distinct ++ x ∷ []) n 0 ≡ x =
    get_or-append_right distinct (x ∷ []) n n 0 refl (omega arith) ∙ ap (λ k. get_or (x ∷ []) k 0) (let none : n - n ≡ 0 = omega arith in none) in
    let left : (k : ℕ) → k < n → get_or (distinct ++ x ∷ []) k 0 ≡ get_or distinct k 0 = λ k hk. get_or_append_left distinct (x ∷ []) 0 k hk in
    let same : i + 1 - 1 ≡ i = omega arith in
    record {
      ascending = λ k hk. elim (cases_eq (k + 1) n) [
        | inl e ↦
            let some : 0 < n = omega arith in
            let l = before.last some in
            let low : get_or numbers (i - 1) 0 ≤ get_or numbers i 0 = rise (i - 1) i 0 (omega arith) lt in
            let at_end : k ≡ n - 1 = omega arith in
            let here : get_or distinct k 0 ≡ get_or numbers (i - 1) 0 = ap (λ m. get_or distinct m 0) at_end ∙ l.1 in
            let other : get_or distinct k 0 ≢ x = λ s. not_last (some, ap (λ m. get_or distinct m 0) (sym at_end) ∙ s) in
            let first = left k (omega arith) in
            let second : get_or (distinct ++ x ∷ []) (k + 1) 0 ≡ x = ap (λ m. get_or (distinct ++ x ∷ []) m 0) e ∙ own in
            omega (arith, first, second, here, other, low, is)
        | inr d ↦
            let first = left k (omega (arith, long)) in
            let second = left (k + 1) (omega (arith, long)) in
            let old = before.ascending k (omega (arith, long)) in
            omega (arith, first, second, old)
      ];
      known = λ k hk. elim (cases_eq k i) [
        | inl e ↦ subst (Contains (distinct ++ x ∷ [])) (is ∙ ap (λ m. get_or numbers m 0) (sym e)) (Contains-push distinct x)
        | inr d ↦ Contains-append_left distinct (x ∷ []) (get_or numbers k 0) (before.known k (omega arith))
      ];
      from = λ m found. elim (Contains-push_cases distinct x m found) [
        | inl old ↦ before.from m old
        | inr e ↦ subst (Contains numbers) (sym is ∙ e) (Contains-get_or numbers i 0 lt)
      ];
      last = λ some. (omega arith, ap (λ m. get_or (distinct ++ x ∷ []) m 0) (let end : length (distinct ++ x ∷ []) - 1 ≡ n = omega (arith, long) in end) ∙ own ∙ is ∙ ap (λ m. get_or numbers m 0) (sym same));
    }

pub distinct_all : {numbers distinct : List ℕ} → AreDistinctOf numbers (length numbers) distinct → (n : ℕ) → Contains distinct n ↔ Contains numbers n
distinct_all {numbers} {distinct} all n =
    (all.from n, λ found. subst (Contains distinct) (get_or_default numbers found.0 0 n found.1 ∙ found.2) (all.known found.0 found.1))

-- the first parts of pairs
pub firsts_rise : (pairs : List (ℕ × ℕ)) → IsNonDecreasingBy (λ pair. pair.0) pairs → IsNonDecreasing (map (λ pair. pair.0) pairs)
firsts_rise pairs rise i j d le lt =
    let first = λ (pair : ℕ × ℕ). pair.0 in
    let wide : j < length pairs = omega (arith, length-map pairs first) in
    let a = get_or-map first pairs i (0, 0) d (omega arith) in
    let b = get_or-map first pairs j (0, 0) d wide in
    let c = rise i j (0, 0) le wide in
    omega (arith, a, b, c)
