-- An equation as a list of indices that may repeat.
use Rattle.std.specs.Prelude.{ℕ, ◌%◌, List, [], ◌∷◌, count_by, ◌==◌}
use Rattle.rq_algebra.specs.Operations.{Space}

-- the sum of the entries at the indices, each as often as it is listed
unfoldable pub sum_listed : {X : Type 0} → Space X → List ℕ → (ℕ → X) → X
sum_listed S [] column = S.zero
sum_listed S (index ∷ indices) column = S.add (column index) (sum_listed S indices column)

-- the coefficient of index k: the parity of how often k is listed
unfoldable pub parity : List ℕ → ℕ → ℕ
parity indices k = count_by (λ p. p == k) indices % 2
