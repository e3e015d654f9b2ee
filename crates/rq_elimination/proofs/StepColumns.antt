-- What recorded steps make of one column of rows, whatever the others are.
use Rattle.std.proofs.Common.{◌≡◌, ◌≢◌, ℕ, ◌+◌, ◌<◌, List, [], ◌∷◌, ◌++◌, All, Contains, get_or, length, refl, sym, ap, ◌∙◌, subst, arith, inl, inr}
use Rattle.std.specs.List.{range_with_len}
use Rattle.std.proofs.lemmas.Bool.{cases_eq}
use Rattle.std.proofs.lemmas.List.Elements.{All-head, All-tail, All-contains, All-from_get_or, Contains-get_or}
use Rattle.std.proofs.lemmas.List.FromFn.{length-range_with_len, get_or-range_with_len}
use Rattle.rq_algebra.specs.Field.{Field}
use Rattle.rq_algebra.specs.Operations.{Operation, AddAssign, MulAssign, Fma, Reorder}
use Rattle.rq_algebra.specs.Changes.{with_at}
use Rattle.rq_algebra.proofs.ChangeLaws.{with_at_same, with_at_other}
use Rattle.rq_algebra.proofs.Sums.{mul_zero}
use Rattle.rq_elimination.specs.RowSteps.{row_step, rows_after, IsStepAmong, IsStepTo}

-- an entry of the row that was changed, and of another one
pub changed_here : (a : ℕ → ℕ → ℕ) (dest : ℕ) (f : ℕ → ℕ) (i k : ℕ) → i ≡ dest → with_at a dest f i k ≡ f k
changed_here a dest f i k e = ap (λ (row : ℕ → ℕ). row k) (with_at_same a dest f i e)

pub changed_other : (a : ℕ → ℕ → ℕ) (dest : ℕ) (f : ℕ → ℕ) (i k : ℕ) → i ≢ dest → with_at a dest f i k ≡ a i k
changed_other a dest f i k d = ap (λ (row : ℕ → ℕ). row k) (with_at_other a dest f i d)

pub rows_after-none : (F : Field) (a : ℕ → ℕ → ℕ) (i k : ℕ) → rows_after F [] a i k ≡ a i k
unfolding rows_after
rows_after-none F a i k = refl

pub rows_after-turn : (F : Field) (first more : List Operation) (a : ℕ → ℕ → ℕ) → rows_after F (first ++ more) a ≡ rows_after F more (rows_after F first a)
unfolding rows_after
rows_after-turn F [] more a = refl
rows_after-turn F (step ∷ first) more a = unfold rows_after in rows_after-turn F first more (row_step F step a)

pub rows_after-next : (F : Field) (first second : List Operation) (a : ℕ → ℕ → ℕ) (i k : ℕ) → rows_after F (first ++ second) a i k ≡ rows_after F second (rows_after F first a) i k
rows_after-next F first second a i k = ap (λ (b : ℕ → ℕ → ℕ). b i k) (rows_after-turn F first second a)

-- rows but those of which P holds are as they were
abbrev pub StaysBut : (ℕ → Type 0) → (ℕ → ℕ → ℕ) → (ℕ → ℕ → ℕ) → Type 0
StaysBut P m now = (r k : ℕ) → (P r → ⊥) → now r k ≡ m r k

module _ (F : Field) (P : ℕ → Type 0) where
  step_elsewhere : (step : Operation) (m : ℕ → ℕ → ℕ) → IsStepTo P step → StaysBut P m (row_step F step m)
  unfolding row_step
  step_elsewhere (AddAssign dest src) m is r k out = changed_other m dest _ r k (λ e. out (subst P (sym e) is))
  step_elsewhere (MulAssign dest scalar) m is r k out = changed_other m dest _ r k (λ e. out (subst P (sym e) is))
  step_elsewhere (Fma dest src scalar) m is r k out = changed_other m dest _ r k (λ e. out (subst P (sym e) is))
  step_elsewhere (Reorder order) m is r k out = refl

  pub steps_elsewhere : (steps : List Operation) (m : ℕ → ℕ → ℕ) → All (IsStepTo P) steps → StaysBut P m (rows_after F steps m)
  unfolding rows_after
  steps_elsewhere [] m all r k out = refl
  steps_elsewhere (step ∷ steps) m all r k out =
      unfold rows_after in steps_elsewhere steps (row_step F step m) (All-tail (IsStepTo P) step steps all) r k out
      ∙ step_elsewhere step m (All-head (IsStepTo P) step steps all) r k out

-- sums and multiples of rows that are alike are alike
pub record IsLinearRelation (F : Field) (Alike : (ℕ → ℕ) → (ℕ → ℕ) → Type 0) : Type 0 where
  pub sums : (f g h j : ℕ → ℕ) → Alike f g → Alike h j → Alike (λ k. F.add (f k) (h k)) (λ k. F.add (g k) (j k))
  pub multiples : (scalar : ℕ) (f g : ℕ → ℕ) → Alike f g → Alike (λ k. F.mul scalar (f k)) (λ k. F.mul scalar (g k))

module _ (F : Field) (rows : List ℕ) where
  -- listed rows that are alike in two systems stay so
  module _ (Alike : (ℕ → ℕ) → (ℕ → ℕ) → Type 0) (linear : IsLinearRelation F Alike) where
    abbrev AreAlike : (ℕ → ℕ → ℕ) → (ℕ → ℕ → ℕ) → Type 0
    AreAlike a b = (i : ℕ) → Contains rows i → Alike (a i) (b i)

    changed_alike : (a b : ℕ → ℕ → ℕ) (dest : ℕ) (f g : ℕ → ℕ) → AreAlike a b → Alike f g → AreAlike (with_at a dest f) (with_at b dest g)
    changed_alike a b dest f g alike here i c = elim (cases_eq i dest) [
      | inl e ↦ rw (with_at_same a dest f i e, with_at_same b dest g i e) here
      | inr d ↦ rw (with_at_other a dest f i d, with_at_other b dest g i d) (alike i c)
    ]

    pub row_step-alike : (step : Operation) (a b : ℕ → ℕ → ℕ) → IsStepAmong F rows step → AreAlike a b → AreAlike (row_step F step a) (row_step F step b)
    unfolding row_step
    row_step-alike (AddAssign dest src) a b is alike = changed_alike a b dest _ _ alike (linear.sums (a dest) (b dest) (a src) (b src) (alike dest is.0) (alike src is.1))
    row_step-alike (MulAssign dest scalar) a b is alike = changed_alike a b dest _ _ alike (linear.multiples scalar (a dest) (b dest) (alike dest is.0))
    row_step-alike (Fma dest src scalar) a b is alike =
        changed_alike a b dest _ _ alike (linear.sums (a dest) (b dest) (λ k. F.mul scalar (a src k)) (λ k. F.mul scalar (b src k)) (alike dest is.0) (linear.multiples scalar (a src) (b src) (alike src is.1)))
    row_step-alike (Reorder order) a b is alike = alike

    pub rows_after-alike : (steps : List Operation) (a b : ℕ → ℕ → ℕ) → All (IsStepAmong F rows) steps → AreAlike a b → AreAlike (rows_after F steps a) (rows_after F steps b)
    unfolding rows_after
    rows_after-alike [] a b among alike = alike
    rows_after-alike (step ∷ steps) a b among alike =
        unfold rows_after in rows_after-alike steps (row_step F step a) (row_step F step b) (All-tail (IsStepAmong F rows) step steps among) (row_step-alike step a b (All-head (IsStepAmong F rows) step steps among) alike)

  -- columns k and l of two systems are the same in the listed rows
  pub rows_after-column : (steps : List Operation) (a b : ℕ → ℕ → ℕ) (k l : ℕ) → All (IsStepAmong F rows) steps → ((i : ℕ) → Contains rows i → a i k ≡ b i l) → (i : ℕ) → Contains rows i → rows_after F steps a i k ≡ rows_after F steps b i l
  rows_after-column steps a b k l among same = rows_after-alike (λ f g. f k ≡ g l) (record { sums = λ f g h j e d. cc (e, d); multiples = λ scalar f g e. ap (F.mul scalar) e }) steps a b among same

  -- a column that is zero in the listed rows stays so
  pub rows_after-zero : (steps : List Operation) (a : ℕ → ℕ → ℕ) (k : ℕ) → All (IsStepAmong F rows) steps → ((i : ℕ) → Contains rows i → a i k ≡ 0) → (i : ℕ) → Contains rows i → rows_after F steps a i k ≡ 0
  rows_after-zero steps a k among zeros = rows_after-alike (λ f g. f k ≡ 0) (record { sums = λ f g h j e d. cc (e, d, F.zero_add 0); multiples = λ scalar f g e. cc (e, mul_zero F scalar) }) steps a a among zeros

  among_to : (step : Operation) → IsStepAmong F rows step → IsStepTo (Contains rows) step
  among_to (AddAssign dest src) is = is.0
  among_to (MulAssign dest scalar) is = is.0
  among_to (Fma dest src scalar) is = is.0
  among_to (Reorder order) is = is

  -- rows that are not listed stay
  pub rows_after-apart : (steps : List Operation) (a : ℕ → ℕ → ℕ) → All (IsStepAmong F rows) steps → StaysBut (Contains rows) a (rows_after F steps a)
  rows_after-apart steps a among = steps_elsewhere F (Contains rows) steps a (λ k d l. among_to (get_or steps k d) (among k d l))

-- all rows below a height
pub below_height : (height r : ℕ) → Contains (range_with_len 0 height) r → r < height
below_height height r c =
    All-contains (λ i. i < height) (range_with_len 0 height) r (All-from_get_or (λ i. i < height) (range_with_len 0 height) 0 (λ i l. let n = length-range_with_len 0 height in let e = get_or-range_with_len 0 height i 0 (omega (arith, n)) in omega (arith, n))) c

pub Contains-range : (height r : ℕ) → r < height → Contains (range_with_len 0 height) r
Contains-range height r l =
    let inside : r < length (range_with_len 0 height) = omega (arith, length-range_with_len 0 height) in
    let same : 0 + r ≡ r = omega arith in
    subst (Contains (range_with_len 0 height)) (get_or-range_with_len 0 height r 0 l ∙ same) (Contains-get_or (range_with_len 0 height) r 0 inside)
