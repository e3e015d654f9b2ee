-- What recorded steps make of what rows say of a column: the same as of the rows.
use Rattle.std.proofs.Common.{◌≡◌, ℕ, List, All, Contains, sym, ap, ◌∙◌}
use Rattle.rq_algebra.specs.Field.{Field}
use Rattle.rq_algebra.specs.Operations.{Operation}
use Rattle.rq_algebra.specs.Systems.{dot}
use Rattle.rq_algebra.proofs.Sums.{dot_add_row, dot_mul_row}
use Rattle.rq_elimination.specs.RowSteps.{rows_after, IsStepAmong}
use Rattle.rq_elimination.proofs.StepColumns.{IsLinearRelation, rows_after-alike}

module _ (F : Field) (rows : List ℕ) (width k : ℕ) (x : ℕ → ℕ) where
  -- column k of a system has what the rows of another one say of x
  abbrev Says : (ℕ → ℕ → ℕ) → (ℕ → ℕ → ℕ) → Type 0
  Says a m = (i : ℕ) → Contains rows i → a i k ≡ dot F width (m i) x

  dot_is_linear : IsLinearRelation F (λ f g. f k ≡ dot F width g x)
  dot_is_linear = record {
    sums = λ f g h j says more. cc (says, more) ∙ sym (dot_add_row F width g j x);
    multiples = λ scalar f g says. ap (F.mul scalar) says ∙ sym (dot_mul_row F width scalar g x);
  }

  pub rows_after-says : (steps : List Operation) (a m : ℕ → ℕ → ℕ) → All (IsStepAmong F rows) steps → Says a m → Says (rows_after F steps a) (rows_after F steps m)
  rows_after-says = rows_after-alike F rows (λ f g. f k ≡ dot F width g x) dot_is_linear
