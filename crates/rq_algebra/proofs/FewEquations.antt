-- A system with fewer rows than unknowns has a homogeneous column, and so has one that is zero but in few rows on some of the columns.
use Rattle.std.proofs.Common.{◌≡◌, ◌≢◌, ℕ, zero, suc, ◌<◌, sym, ap, ◌∙◌, refl, arith, inl, inr}
use Rattle.std.proofs.lemmas.Bool.{cases_eq}
use Rattle.rq_algebra.specs.Field.{Field}
use Rattle.rq_algebra.specs.Arrangements.{ArePlaces}
use Rattle.rq_algebra.specs.Systems.{dot, HasHomogeneousColumn}
use Rattle.rq_algebra.specs.SystemLaws.{FewEquationsHaveHomogeneousColumn, FewOnColumnsHaveHomogeneousColumn}
use Rattle.rq_algebra.proofs.Sums.{sum_same, mul_zero, zero_mul, redo_mul, dot_same, dot_fma, dot-suc, dot_zero, dot_below_size}
use Rattle.rq_algebra.specs.Changes.{with_at}
use Rattle.rq_algebra.proofs.ChangeLaws.{find_place, find_nonzero, with_at_same, with_at_other, without, without_below, without_onto}
use Rattle.rq_algebra.proofs.Places.{sum_places, spread, spread_at, spread_off}

module _ (F : Field) where
  -- row i with column n cleared by row p
  pub cleared : (ℕ → ℕ → ℕ) → ℕ → ℕ → ℕ → ℕ → ℕ
  cleared a n p i k = F.add (a i k) (F.mul (F.mul (a i n) (F.inverse (a p n))) (a p k))

  -- the dot with a column that was given entry z at n
  pub dot_with_at : (n : ℕ) (r y : ℕ → ℕ) (z : ℕ) → dot F (suc n) r (with_at y n z) ≡ F.add (dot F n r y) (F.mul (r n) z)
  dot_with_at n r y z = cc (dot-suc F n r (with_at y n z), dot_same F n r r (with_at y n z) y (λ k l. refl) (λ k l. with_at_other y n z k (omega arith)), with_at_same y n z n refl)

  -- where a column of the rows is zero, it alone is a homogeneous column
  homogeneous_of_zero : (n height : ℕ) (a : ℕ → ℕ → ℕ) → ((i : ℕ) → i < height → a i n ≡ 0) → HasHomogeneousColumn F height (suc n) a
  homogeneous_of_zero n height a empty = record {
    column = with_at (λ _. 0) n 1;
    is_column = λ k l. elim (cases_eq k n) [ inl e ↦ rw (with_at_same {X = ℕ} (λ _. 0) n 1 k e) F.one_below | inr d ↦ rw (with_at_other {X = ℕ} (λ _. 0) n 1 k d) (omega (arith, F.one_below)) ];
    index = n;
    in_width = omega arith;
    nonzero = rw (with_at_same {X = ℕ} (λ _. 0) n 1 n refl) (omega arith);
    solves = record { at = λ i l. cc (dot_with_at n (a i) (λ _. 0) 1, dot_zero F n (a i) (λ _. 0) (λ k m. mul_zero F (a i k)), empty i l, zero_mul F 1, F.zero_add 0) };
  }

  module _ (n h : ℕ) (a : ℕ → ℕ → ℕ) (p : ℕ) (in_rows : p < suc h) (nonzero : a p n ≢ 0) (elements : (i k : ℕ) → i < suc h → k < suc n → a i k < F.size) (y : ℕ → ℕ) where
    -- what the entry at n must be, so that row p gives zero
    entry : ℕ
    entry = F.mul (F.inverse (a p n)) (dot F n (a p) y)

    pivot_row : dot F (suc n) (a p) (with_at y n entry) ≡ 0
    unfolding entry
    pivot_row = cc (dot_with_at n (a p) y entry, redo_mul F (a p n) (dot F n (a p) y) (elements p n in_rows (omega arith)) nonzero (dot_below_size F n (a p) y), F.add_self (dot F n (a p) y))

    -- a cleared row says of y what the row says of y with that entry
    other_row : (i : ℕ) → dot F (suc n) (a i) (with_at y n entry) ≡ dot F n (cleared a n p i) y
    unfolding entry cleared
    other_row i = cc (dot_with_at n (a i) y entry, dot_fma F n (F.mul (a i n) (F.inverse (a p n))) (a i) (a p) y, F.mul_assoc (a i n) (F.inverse (a p n)) (dot F n (a p) y))

  homogeneous_step : (n h : ℕ) (a : ℕ → ℕ → ℕ) (p : ℕ) → p < suc h → a p n ≢ 0 → ((i k : ℕ) → i < suc h → k < suc n → a i k < F.size) → HasHomogeneousColumn F h n (λ i. cleared a n p (without p h i)) → HasHomogeneousColumn F (suc h) (suc n) a
  unfolding entry
  homogeneous_step n h a p in_rows nonzero elements null = let z : ℕ = entry n h a p in_rows nonzero elements null.column in record {
    column = with_at null.column n z;
    is_column = λ k l. elim (cases_eq k n) [ inl e ↦ rw (with_at_same null.column n z k e) (F.mul_below _ _) | inr d ↦ rw (with_at_other null.column n z k d) (null.is_column k (omega arith)) ];
    index = null.index;
    in_width = omega (arith, null.in_width);
    nonzero = rw (with_at_other null.column n z null.index (omega (arith, null.in_width))) null.nonzero;
    solves = record {
      at = λ i l. elim (cases_eq i p) [
        | inl e ↦ rw e (pivot_row n h a p in_rows nonzero elements null.column)
        | inr d ↦ let m = without_onto p h i in_rows l d in
            other_row n h a p in_rows nonzero elements null.column i ∙ ap (λ (j : ℕ). dot F n (cleared a n p j) null.column) (sym m.2) ∙ null.solves.at m.0 m.1
      ];
    };
  }

pub few_rows : FewEquationsHaveHomogeneousColumn
few_rows F zero height a few elements = absurd (omega arith)
few_rows F (suc n) zero a few elements = homogeneous_of_zero F n zero a (λ i l. absurd (omega arith))
few_rows F (suc n) (suc h) a few elements =
    elim (find_nonzero (suc h) (λ i. a i n)) [
      | inr empty ↦ homogeneous_of_zero F n (suc h) a empty
      | inl q ↦ homogeneous_step F n h a q.0 q.1 q.2 elements
          (few_rows F n h (λ i. cleared F a n q.0 (without q.0 h i)) (omega arith)
          (λ i k l m. unfold cleared in F.add_below _ _ (elements (without q.0 h i) k (without_below q.0 h i l) (omega arith)) (F.mul_below _ _)))
    ]

-- on n + 1 of the columns only n of the rows are not zero: then a homogeneous column stands there
pub homogeneous_of_few : FewOnColumnsHaveHomogeneousColumn
unfolding dot
homogeneous_of_few F height width n a rows columns elements few =
    let are : ArePlaces (suc n) width columns = few.columns_are in
    let null : HasHomogeneousColumn F n (suc n) (λ p j. a (rows p) (columns j)) = few_rows F (suc n) n (λ p j. a (rows p) (columns j)) (omega arith) (λ p j l m. elements (rows p) (columns j) (few.rows_below p l) (are.below j m)) in
    let x : ℕ → ℕ = spread (suc n) columns null.column in
    let says : (i : ℕ) → i < height → dot F width (a i) x ≡ dot F (suc n) (λ j. a i (columns j)) null.column = (λ (i : ℕ) (l : i < height).
    sum_places F (suc n) width (λ k. F.mul (a i k) (x k)) columns are (λ k m free. cc (spread_off (suc n) columns null.column k free, mul_zero F (a i k)))
    ∙ sum_same F (suc n) (λ j. F.mul (a i (columns j)) (x (columns j))) (λ j. F.mul (a i (columns j)) (null.column j)) (λ j m. ap (λ (y : ℕ). F.mul (a i (columns j)) y) (spread_at (suc n) width columns null.column are j m))) in
    record {
      column = x;
      is_column = λ k l. elim (find_place (suc n) columns k) [
        | inl q ↦ rw (← q.2, spread_at (suc n) width columns null.column are q.0 q.1) (null.is_column q.0 q.1)
        | inr free ↦ rw (spread_off (suc n) columns null.column k free) (omega (arith, F.one_below))
      ];
      index = columns null.index;
      in_width = are.below null.index null.in_width;
      nonzero = rw (spread_at (suc n) width columns null.column are null.index null.in_width) null.nonzero;
      solves = record {
        at = λ i l. says i l ∙ elim (find_place n rows i) [
          | inl q ↦ ap (λ (r : ℕ). dot F (suc n) (λ j. a r (columns j)) null.column) (sym q.2) ∙ null.solves.at q.0 q.1
          | inr free ↦ dot_zero F (suc n) (λ j. a i (columns j)) null.column (λ j m. cc (few.zeros i l free j m, zero_mul F (null.column j)))
        ];
      };
    }
