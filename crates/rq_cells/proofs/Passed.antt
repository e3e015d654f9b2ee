-- Streams that are passed over.
use Rattle.std.proofs.Common.{◌≡◌, ◌||◌, ℕ, Bool, List, [], ◌∷◌, map, refl, ap}
use Rattle.std.specs.List.{list_any}

-- a test of what stands in each
pub any_in : {X : Type 0} (items : X → List ℕ) (test : List ℕ → Bool) (xs : List X) → list_any (λ x. test (items x)) xs ≡ list_any test (map items xs)
any_in items test [] = refl
any_in items test (x ∷ xs) = ap (λ b. test (items x) || b) (any_in items test xs)
