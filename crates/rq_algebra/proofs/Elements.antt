-- Rows of elements stay rows of elements.
use Rattle.std.proofs.Common.{ℕ, ◌<◌, inl, inr}
use Rattle.std.proofs.lemmas.Bool.{cases_eq}
use Rattle.rq_algebra.specs.Field.{Field}
use Rattle.rq_algebra.specs.Systems.{HasElements}
use Rattle.rq_algebra.specs.Steps.{AddsRow, ScalesRow}

module _ (F : Field) (height width dest scalar : ℕ) (a b : ℕ → ℕ → ℕ) (elements : HasElements F height width a) where
  pub adds_elements : (src : ℕ) → dest < height → AddsRow F height width dest src scalar a b → HasElements F height width b
  adds_elements src in_dest adds i k l m = elim (cases_eq i dest) [
    | inl e ↦ rw (e, adds.at_dest k m) (F.add_below _ _ (elements dest k in_dest m) (F.mul_below _ _))
    | inr d ↦ rw (adds.elsewhere i k l m d) (elements i k l m)
  ]

  pub scales_elements : ScalesRow F height width dest scalar a b → HasElements F height width b
  scales_elements scales i k l m = elim (cases_eq i dest) [
    | inl e ↦ rw (e, scales.at_dest k m) (F.mul_below _ _)
    | inr d ↦ rw (scales.elsewhere i k l m d) (elements i k l m)
  ]
