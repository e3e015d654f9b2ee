-- Lists of numbers that go on with zeros.
use Rattle.std.proofs.Common.{◌≡◌, ℕ, zero, suc, ◌+◌, ◌<◌, List, [], ◌∷◌, ◌++◌, length, replicate, get_or, set, refl, subst, arith}
use Rattle.std.proofs.lemmas.List.Edits.{fill_by_more}
use Rattle.rq_algebra.proofs.Placewise.{at-zeros}

pub padded_reads : (xs : List ℕ) (n k : ℕ) → ◌≡◌ {A = ℕ} (get_or (xs ++ replicate n 0) k 0) (get_or xs k 0)
padded_reads [] n k = at-zeros n k
padded_reads (x ∷ xs) n zero = refl
padded_reads (x ∷ xs) n (suc k) = padded_reads xs n k

pub positive_within : (xs : List ℕ) (k : ℕ) → 0 < get_or xs k 0 → k < length xs
positive_within [] k positive = absurd (omega arith)
positive_within (x ∷ xs) zero positive = omega arith
positive_within (x ∷ xs) (suc k) positive = let rest = positive_within xs k positive in omega arith

pub zeros_more : (xs : List ℕ) (i j : ℕ) → i ≡ j → i < length xs → ((k : ℕ) → k < i → get_or xs k 0 ≡ 0) → (k : ℕ) → k < i + 1 → get_or (set xs j 0) k 0 ≡ 0
zeros_more xs i j e lt zeros k below = subst (λ n. get_or (set xs n 0) k 0 ≡ 0) e (fill_by_more (λ _. 0) xs i 0 lt zeros k below)
