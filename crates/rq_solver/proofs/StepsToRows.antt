-- Steps that are taken one after another.
use Rattle.std.proofs.Common.{◌≡◌, ℕ, ◌+◌, ◌<◌, List, [], ◌∷◌, ◌++◌, All, get_or, refl, sym, subst, arith}
use Rattle.std.proofs.lemmas.List.Elements.{All-append, All-cons, All-nil}
use Rattle.rq_algebra.specs.Operations.{Operation, AddAssign, MulAssign, Fma, Reorder}
use Rattle.rq_standard.specs.OctetField.{octets}
use Rattle.rq_elimination.specs.RowSteps.{rows_after, sum_step, IsStepTo}
use Rattle.rq_elimination.specs.declared.recorded.RecordedRows.{RecordedRows}
use Rattle.rq_algebra.proofs.Choices.{if_either}
use Rattle.rq_elimination.proofs.Performing.{sum_step-here}
use Rattle.rq_elimination.proofs.StepColumns.{steps_elsewhere, rows_after-turn, StaysBut}
use Rattle.rq_solver.specs.TakenSteps.{IsFirstOf, TakesSteps}

-- what rows were, and what they are then
abbrev pub Effects : Type 1
Effects = (ℕ → ℕ → ℕ) → (ℕ → ℕ → ℕ) → Type 0

-- steps to some of the rows are steps to more of them
module _ (P Q : ℕ → Type 0) (more : (r : ℕ) → P r → Q r) where
  step_to : (step : Operation) → IsStepTo P step → IsStepTo Q step
  step_to (AddAssign dest src) is = more dest is
  step_to (MulAssign dest scalar) is = more dest is
  step_to (Fma dest src scalar) is = more dest is
  step_to (Reorder order) is = is

  pub steps_to : (steps : List Operation) → All (IsStepTo P) steps → All (IsStepTo Q) steps
  steps_to steps all = λ k d l. step_to (get_or steps k d) (all k d l)

-- one of the first rows is one of the first, if there is one more
pub one_more : (rows : List ℕ) (count r : ℕ) → IsFirstOf rows count r → IsFirstOf rows (count + 1) r
one_more rows count r c = (c.0, omega (arith, c.1), c.2)

-- ---- effects

-- a multiple of a row was added to another one
abbrev pub HasAdded : ℕ → ℕ → ℕ → Effects
HasAdded dest src scalar m now = (k : ℕ) → m src k < 256 → now dest k ≡ octets.add (m dest k) (octets.mul scalar (m src k))

-- one effect and then another, each of which leaves other rows than its own as they were
pub record InTurn (P Q : ℕ → Type 0) (E F : Effects) (m now : ℕ → ℕ → ℕ) : Type 0 where
  pub between : ℕ → ℕ → ℕ
  pub stays : StaysBut P m between
  pub first : E m between
  pub rest : StaysBut Q between now
  pub second : F between now

-- ---- no steps, one, and one after another

module _ {Done : List Operation → RecordedRows → RecordedRows → Type 0} where
  pub stays : {P : ℕ → Type 0} {E : Effects} {old new : RecordedRows} (v : TakesSteps Done P E old new) (m : ℕ → ℕ → ℕ)
      → StaysBut P m (rows_after octets v.steps m)
  stays {P} v m = steps_elsewhere octets P v.steps m v.within

  module _ {P : ℕ → Type 0} {E : Effects} where
    unfoldable pub takes_none : {state : RecordedRows} → Done [] state state → ((m : ℕ → ℕ → ℕ) → E m m) → TakesSteps Done P E state state
    unfolding rows_after
    takes_none done same = record { steps = []; done = done; within = All-nil (IsStepTo P); effect = same }

    module _ {Q : ℕ → Type 0} {F : Effects} {old new : RecordedRows} where
      unfoldable pub takes_same : TakesSteps Done P E old new → ((r : ℕ) → P r → Q r) → ((m now : ℕ → ℕ → ℕ) → StaysBut P m now → E m now → F m now)
          → TakesSteps Done Q F old new
      takes_same v more effect =
          record { steps = v.steps; done = v.done; within = steps_to P Q more v.steps v.within; effect = λ m. effect m _ (stays v m) (v.effect m) }

      unfoldable pub takes_more : {S : ℕ → Type 0} {G : Effects} {mid : RecordedRows} (v : TakesSteps Done P E old mid) (w : TakesSteps Done Q F mid new)
          → (Done v.steps old mid → Done w.steps mid new → Done (v.steps ++ w.steps) old new)
          → ((r : ℕ) → P r → S r) → ((r : ℕ) → Q r → S r) → ((m now : ℕ → ℕ → ℕ) → InTurn P Q E F m now → G m now) → TakesSteps Done S G old new
      takes_more {S} {G} v w more first second effect = record {
        steps = v.steps ++ w.steps;
        done = more v.done w.done;
        within = All-append (IsStepTo S) v.steps w.steps (steps_to P S first v.steps v.within) (steps_to Q S second w.steps w.within);
        effect = λ m.
            let mid = rows_after octets v.steps m in
            subst (G m) (sym (rows_after-turn octets v.steps w.steps m)) (effect m (rows_after octets w.steps mid)
            (record { between = mid; stays = stays v m; first = v.effect m; rest = stays w mid; second = w.effect mid }));
      }

    unfoldable pub takes_one : {old new : RecordedRows} (step : Operation) → IsStepTo P step → Done (step ∷ []) old new
        → ((m : ℕ → ℕ → ℕ) → E m (rows_after octets (step ∷ []) m)) → TakesSteps Done P E old new
    takes_one step is done effect = record { steps = step ∷ []; done = done; within = All-cons (IsStepTo P) step [] is (All-nil (IsStepTo P)); effect = effect }

  -- a row takes a multiple of another one
  unfoldable pub takes_sum : (dest src scalar : ℕ) {old new : RecordedRows} → Done (sum_step dest src scalar ∷ []) old new
      → TakesSteps Done (λ r. r ≡ dest) (HasAdded dest src scalar) old new
  takes_sum dest src scalar done =
      takes_one (sum_step dest src scalar) (if_either (IsStepTo (λ r. r ≡ dest)) scalar 1 (AddAssign dest src) (Fma dest src scalar) (λ e. refl) (λ d. refl))
      done (λ m k l. sum_step-here dest src scalar m k l)
