-- How many additions one more operation makes.
use Rattle.std.proofs.Common.{◌≡◌, ℕ, ◌+◌, if◌then◌else◌, List, [], ◌∷◌, ◌++◌, refl, ap, ◌∙◌, arith}
use Rattle.std.proofs.lemmas.List.Sums.{sum_by-append}
use Rattle.rq_algebra.specs.Operations.{Operation, AddAssign, MulAssign, Fma}
use Rattle.rq_elimination.specs.OperationCounts.{additions, is_addition}
use Rattle.rq_elimination.specs.RowSteps.{sum_step}
use Rattle.rq_algebra.proofs.Choices.{if_either}

additions-push : (operations : List Operation) (operation : Operation) → additions (operations ++ operation ∷ []) ≡ additions operations + additions (operation ∷ [])
additions-push operations operation = sum_by-append (λ (o : Operation). if is_addition o then 1 else 0) operations (operation ∷ [])

pub additions-sum : (operations : List Operation) (dest src scalar : ℕ) → additions (operations ++ sum_step dest src scalar ∷ []) ≡ additions operations + 1
additions-sum operations dest src scalar =
    additions-push operations (sum_step dest src scalar)
    ∙ ap (λ (n : ℕ). additions operations + n) (if_either (λ (step : Operation). additions (step ∷ []) ≡ 1) scalar 1 (AddAssign dest src) (Fma dest src scalar) (λ e. refl) (λ d. refl))

pub additions-scaling : (operations : List Operation) (dest scalar : ℕ) → additions (operations ++ MulAssign dest scalar ∷ []) ≡ additions operations
additions-scaling operations dest scalar = additions-push operations (MulAssign dest scalar) ∙ omega arith
