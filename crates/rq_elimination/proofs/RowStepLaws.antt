-- What recorded steps keep, and that one follows another.
use Rattle.std.proofs.Common.{◌≡◌, ℕ, ◌<◌, List, [], ◌∷◌, ◌++◌, refl, sym, ap, ◌∙◌, subst, append_assoc, append-nil}
use Rattle.std.specs.List.{range_with_len}
use Rattle.std.proofs.lemmas.List.Elements.{All-head, All-tail}
use Rattle.rq_algebra.specs.Field.{Field}
use Rattle.rq_algebra.specs.Steps.{AddsRow, ScalesRow}
use Rattle.rq_algebra.specs.Systems.{HasElements}
use Rattle.rq_algebra.specs.Operations.{Operation, AddAssign, MulAssign, Fma, Reorder}
use Rattle.rq_algebra.specs.Following.{Follows}
use Rattle.rq_algebra.proofs.OperationRuns.{follows_add, follows_fma, follows_scale}
use Rattle.rq_elimination.specs.RowSteps.{row_step, rows_after, IsStepAmong, AreStepsBelow}
use Rattle.rq_elimination.proofs.StepColumns.{IsLinearRelation, changed_here, changed_other, row_step-alike, rows_after-alike, Contains-range, below_height}

-- the steps as relations on entries
module _ (F : Field) (height width dest : ℕ) (a : ℕ → ℕ → ℕ) where
  pub row_step_adds : (src scalar : ℕ) → AddsRow F height width dest src scalar a (row_step F (Fma dest src scalar) a)
  unfolding row_step
  row_step_adds src scalar = record {
    at_dest = λ k l. changed_here a dest _ dest k refl;
    elsewhere = λ i k l m d. changed_other a dest _ i k d;
  }

  pub row_step_adds_one : (src : ℕ) → HasElements F height width a → src < height → AddsRow F height width dest src 1 a (row_step F (AddAssign dest src) a)
  unfolding row_step
  row_step_adds_one src elements in_src = record {
    at_dest = λ k l. changed_here a dest _ dest k refl ∙ ap (F.add (a dest k)) (sym (F.one_mul (a src k) (elements src k in_src l)));
    elsewhere = λ i k l m d. changed_other a dest _ i k d;
  }

  pub row_step_scales : (scalar : ℕ) → ScalesRow F height width dest scalar a (row_step F (MulAssign dest scalar) a)
  unfolding row_step
  row_step_scales scalar = record {
    at_dest = λ k l. changed_here a dest _ dest k refl;
    elsewhere = λ i k l m d. changed_other a dest _ i k d;
  }

-- two systems with the same entries
abbrev pub SameEntries : ℕ → ℕ → (ℕ → ℕ → ℕ) → (ℕ → ℕ → ℕ) → Type 0
SameEntries height width a b = (i k : ℕ) → i < height → k < width → a i k ≡ b i k

module _ (F : Field) (height width : ℕ) where
  -- octets stay octets
  small_is_linear : IsLinearRelation F (λ f g. (k : ℕ) → k < width → f k < F.size)
  small_is_linear = record {
    sums = λ f g h j small more k l. F.add_below (f k) (h k) (small k l) (more k l);
    multiples = λ scalar f g small k l. F.mul_below scalar (f k);
  }

  row_step-elements : (step : Operation) (a : ℕ → ℕ → ℕ) → IsStepAmong F (range_with_len 0 height) step → HasElements F height width a → HasElements F height width (row_step F step a)
  row_step-elements step a is elements i k l m =
      row_step-alike F (range_with_len 0 height) (λ f g. (k : ℕ) → k < width → f k < F.size) small_is_linear step a a is (λ r c k m. elements r k (below_height height r c) m) i (Contains-range height i l) k m

  pub rows_after-elements : (steps : List Operation) (a : ℕ → ℕ → ℕ) → AreStepsBelow F height steps → HasElements F height width a → HasElements F height width (rows_after F steps a)
  rows_after-elements steps a among elements i k l m =
      rows_after-alike F (range_with_len 0 height) (λ f g. (k : ℕ) → k < width → f k < F.size) small_is_linear steps a a among (λ r c k m. elements r k (below_height height r c) m) i (Contains-range height i l) k m

  -- the steps, done to the values, follow
  follows_step : (step : Operation) (original a : ℕ → ℕ → ℕ) (operations : List Operation) → IsStepAmong F (range_with_len 0 height) step → HasElements F height width a → Follows F height width original a operations → Follows F height width original (row_step F step a) (operations ++ step ∷ [])
  follows_step (AddAssign dest src) original a operations is elements follows = follows_add F height width a _ operations dest src is.2 (below_height height dest is.0) (below_height height src is.1) (row_step_adds_one F height width dest a src elements (below_height height src is.1)) original follows
  follows_step (MulAssign dest scalar) original a operations is elements follows = follows_scale F height width a _ operations dest scalar (below_height height dest is.0) is.1 is.2 (row_step_scales F height width dest a scalar) original follows
  follows_step (Fma dest src scalar) original a operations is elements follows = follows_fma F height width a _ operations dest src scalar is.2 (below_height height dest is.0) (below_height height src is.1) (row_step_adds F height width dest a src scalar) original follows
  follows_step (Reorder order) original a operations is elements follows = elim is [ ]

  pub follows_steps : (steps : List Operation) (original a : ℕ → ℕ → ℕ) (operations : List Operation) → AreStepsBelow F height steps → HasElements F height width a → Follows F height width original a operations → Follows F height width original (rows_after F steps a) (operations ++ steps)
  unfolding rows_after
  follows_steps [] original a operations among elements follows = rw (append-nil operations) follows
  follows_steps (step ∷ steps) original a operations among elements follows =
      let is = All-head (IsStepAmong F (range_with_len 0 height)) step steps among in
      let all : Follows F height width original (rows_after F steps (row_step F step a)) ((operations ++ step ∷ []) ++ steps) = follows_steps steps original (row_step F step a) (operations ++ step ∷ []) (All-tail (IsStepAmong F (range_with_len 0 height)) step steps among) (row_step-elements step a is elements) (follows_step step original a operations is elements follows) in
      subst (λ (o : List Operation). Follows F height width original (rows_after F steps (row_step F step a)) o) (append_assoc operations (step ∷ []) steps) all
