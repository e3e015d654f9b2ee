-- A choice by whether two numbers are the same.
use Rattle.std.proofs.Common.{◌≡◌, ◌≢◌, ℕ, if◌then◌else◌, ◌==◌}
use Rattle.std.proofs.lemmas.Bool.{cond-true, cond-false, cond_both, eq-eqb, ne_eqb, eqb-true, eqb-false}

module _ (a b x y : ℕ) where
  pub if_same : a ≡ b → (if a == b then x else y) ≡ x
  if_same e = cond-true (a == b) x y (eq-eqb a b e)

  pub if_apart : a ≢ b → (if a == b then x else y) ≡ y
  if_apart d = cond-false (a == b) x y (ne_eqb a b d)

-- what either choice meets is met
pub if_either : {X : Type 0} (P : X → Type 0) (a b : ℕ) (x y : X) → (a ≡ b → P x) → (a ≢ b → P y) → P (if a == b then x else y)
if_either P a b x y same apart = cond_both (a == b) x y P (λ e. same (eqb-true a b e)) (λ e. apart (eqb-false a b e))
