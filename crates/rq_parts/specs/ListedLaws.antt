-- How often an index is listed: laws that definitions of sparse tables lean on, and so stand among specs.
use Rattle.std.proofs.Common.{◌≡◌, ◌≢◌, ℕ, suc, ◌+◌, ◌<◌, ◌==◌, List, [], ◌∷◌, length, get_or, cond, refl, sym, ap, ◌∙◌, inl, inr, arith, zero-add}
use Rattle.std.specs.List.Sorted.{IsStrictlyIncreasing}
use Rattle.std.proofs.lemmas.Bool.{cases_eq}
use Rattle.std.proofs.lemmas.List.Sums.{sum_by-cons}
use Rattle.rq_algebra.proofs.Choices.{if_same, if_apart}
use Rattle.rq_parts.specs.SparseBinaryVec.{listed_bit}

module _ (x : ℕ) (xs : List ℕ) where
  pub listed_more : (k : ℕ) → listed_bit (x ∷ xs) k ≡ cond (x == k) 1 0 + listed_bit xs k
  listed_more k = sum_by-cons (λ one. cond (one == k) 1 0) x xs

  pub listed-self : (k : ℕ) → k ≡ x → listed_bit (x ∷ xs) k ≡ 1 + listed_bit xs k
  listed-self k same = listed_more k ∙ ap (λ n. n + listed_bit xs k) (if_same x k 1 0 (sym same))

  pub listed-other : (k : ℕ) → k ≢ x → listed_bit (x ∷ xs) k ≡ listed_bit xs k
  listed-other k other = listed_more k ∙ ap (λ n. n + listed_bit xs k) (if_apart x k 1 0 (λ same. other (sym same))) ∙ zero-add (listed_bit xs k)

  pub rises-tail : IsStrictlyIncreasing (x ∷ xs) → IsStrictlyIncreasing xs
  rises-tail up j l =
      let same : get_or (x ∷ xs) (suc j + 1) 0 ≡ get_or (x ∷ xs) (suc (j + 1)) 0 = ap (λ n. get_or (x ∷ xs) n 0) {y = suc (j + 1)} (omega arith) in
      omega (arith, same, up (suc j) (omega arith))

-- no bit is set below the first one
pub listed-below : (xs : List ℕ) (k : ℕ) → IsStrictlyIncreasing xs → (0 < length xs → k < get_or xs 0 0) → listed_bit xs k ≡ 0
listed-below [] k up first = refl
listed-below (x ∷ xs) k up first =
    listed-other x xs k (λ same. omega (arith, same, first (omega arith)))
    ∙ listed-below xs k (rises-tail x xs up) (λ some. omega (arith, up 0 (omega arith), first (omega arith)))

module _ (x : ℕ) (xs : List ℕ) (up : IsStrictlyIncreasing (x ∷ xs)) where
  pub listed-behind : listed_bit xs x ≡ 0
  listed-behind = listed-below xs x (rises-tail x xs up) (λ some. up 0 (omega arith))

  pub listed-first : listed_bit (x ∷ xs) x ≡ 1
  listed-first = listed-self x xs x refl ∙ ap (λ n. 1 + n) listed-behind

-- an ascending list has each index once at most
pub listed-small : (xs : List ℕ) (k : ℕ) → IsStrictlyIncreasing xs → listed_bit xs k < 2
listed-small [] k up = omega arith
listed-small (x ∷ xs) k up =
    elim (cases_eq k x) [
      | inl e ↦ omega (arith, ap (listed_bit (x ∷ xs)) e ∙ listed-first x xs up)
      | inr d ↦ omega (arith, listed-other x xs k d, listed-small xs k (rises-tail x xs up))
    ]
