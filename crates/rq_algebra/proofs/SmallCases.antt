-- The places of small systems, one by one.
use Rattle.std.proofs.Common.{◌≡◌, ℕ, ◌<◌, sym, ap, subst, arith, inl, inr}
use Rattle.std.proofs.lemmas.Bool.{cases_eq}
use Rattle.rq_algebra.specs.Field.{Field}
use Rattle.rq_algebra.specs.Systems.{sum_below, dot}

pub below_one : (P : ℕ → Type 0) → P 0 → (i : ℕ) → i < 1 → P i
below_one P p i l = let e : 0 ≡ i = omega arith in subst P e p

pub below_two : (P : ℕ → Type 0) → P 0 → P 1 → (i : ℕ) → i < 2 → P i
below_two P p q i l = elim (cases_eq i 0) [
  | inl e ↦ subst P (sym e) p
  | inr d ↦ let e : 1 ≡ i = omega arith in subst P e q
]

pub dot-two : (F : Field) (r x : ℕ → ℕ) → dot F 2 r x ≡ F.add (F.mul (r 0) (x 0)) (F.mul (r 1) (x 1))
unfolding dot sum_below
dot-two F r x = ap (λ (y : ℕ). F.add y (F.mul (r 1) (x 1))) (F.zero_add (F.mul (r 0) (x 0)))
