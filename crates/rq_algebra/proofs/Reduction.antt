-- One column after another: rows that are cleared, pivots so far, and what follows at the last column or at one without a pivot.
use Rattle.std.proofs.Common.{◌≡◌, ◌≢◌, ℕ, ◌+◌, ◌<◌, ◌≤◌, sym, ap, ◌∙◌, refl, arith, inl, inr}
use Rattle.std.proofs.lemmas.Bool.{cases_eq}
use Rattle.rq_algebra.specs.Field.{Field}
use Rattle.rq_algebra.specs.Arrangements.{ArePlaces, exchange}
use Rattle.rq_algebra.specs.Systems.{HasElements}
use Rattle.rq_algebra.specs.Steps.{AddsRow, ScalesRow}
use Rattle.rq_algebra.specs.PivotColumns.{HasPivots, HasFirstPivots, ClearsColumn}
use Rattle.rq_algebra.proofs.Sums.{add_zero, mul_zero, mul_one}
use Rattle.rq_algebra.proofs.Places.{exchange_other, exchange_below, exchange_twice}
use Rattle.rq_algebra.proofs.FewPlaces.{all_places}

-- the rows that one column clears, row by row
module _ (F : Field) (height width count pivot column : ℕ) (rows : ℕ → ℕ) (rows_are : ArePlaces count height rows) (in_width : column < width) where
  pub clears_none : (a : ℕ → ℕ → ℕ) → ClearsColumn F count width pivot column 0 rows a a
  clears_none a = record { kept = λ k l. refl; cleared = λ i k l. absurd (omega arith); rest = λ i k l m n. refl }

  module _ (a b : ℕ → ℕ → ℕ) (n : ℕ) (clears : ClearsColumn F count width pivot column n rows a b) where
    -- the pivot's row stays
    pub clears_pivot : n ≡ pivot → ClearsColumn F count width pivot column (n + 1) rows a b
    clears_pivot e = record { kept = clears.kept; cleared = λ i k l m d. clears.cleared i k (omega arith) m d; rest = λ i k l m o. clears.rest i k (omega arith) m o }

    pub clears_more : (c : ℕ → ℕ → ℕ) → n < count → pivot < count → n ≢ pivot → AddsRow F height width (rows n) (rows pivot) (b (rows n) column) b c → ClearsColumn F count width pivot column (n + 1) rows a c
    clears_more c l in_rows other adds =
        let elsewhere : (i k : ℕ) → i < count → k < width → i ≢ n → c (rows i) k ≡ b (rows i) k = (λ (i k : ℕ) (m : i < count) (o : k < width) (d : i ≢ n).
        adds.elsewhere (rows i) k (rows_are.below i m) o (λ e. d (rows_are.apart i n m l e))) in
        record {
          kept = λ k m. elsewhere pivot k in_rows m (λ e. other (sym e)) ∙ clears.kept k m;
          cleared = λ i k m o d. elim (cases_eq i n) [
            | inl s ↦ rw s (cc (adds.at_dest k o, clears.rest n k (omega arith) l o, clears.rest n column (omega arith) l in_width, clears.kept k o))
            | inr f ↦ elsewhere i k (omega arith) o f ∙ clears.cleared i k (omega arith) o d
          ];
          rest = λ i k m o q. elsewhere i k o q (omega arith) ∙ clears.rest i k (omega arith) o q;
        }

-- the first pivots stay where rows or columns that are left are exchanged
module _ (count done : ℕ) (a : ℕ → ℕ → ℕ) (rows columns : ℕ → ℕ) (first : HasFirstPivots count done a rows columns) (p q : ℕ) (left_p : done ≤ p) (left_q : done ≤ q) where
  pub first_pivots_rows : (new_rows : ℕ → ℕ) → p < count → q < count → done ≤ count → ((i : ℕ) → i < count → new_rows i ≡ rows (exchange p q i)) → HasFirstPivots count done a new_rows columns
  first_pivots_rows new_rows in_p in_q fits are = record {
    ones = λ j l. ap (λ (r : ℕ). a r (columns j)) (are j (omega arith) ∙ ap rows (exchange_other p q j (omega arith) (omega arith))) ∙ first.ones j l;
    zeros = λ i j l m d. ap (λ (r : ℕ). a r (columns j)) (are i l) ∙ first.zeros (exchange p q i) j (exchange_below p q count in_p in_q i l) m
        (λ e. d (sym (exchange_twice p q i) ∙ ap (exchange p q) e ∙ exchange_other p q j (omega arith) (omega arith)));
  }

-- one more pivot: its row has been scaled, and has cleared its column in the other rows
module _ (F : Field) (height width count p : ℕ) (a b c : ℕ → ℕ → ℕ) (rows columns : ℕ → ℕ) (rows_are : ArePlaces count height rows) (columns_below : (k : ℕ) → k ≤ p → columns k < width) (in_rows : p < count)
    (elements : HasElements F height width a) (nonzero : a (rows p) (columns p) ≢ 0) (scales : ScalesRow F height width (rows p) (F.inverse (a (rows p) (columns p))) a b)
    (clears : ClearsColumn F count width p (columns p) count rows b c) (first : HasFirstPivots count p a rows columns) where
  pivot_here : b (rows p) (columns p) ≡ 1
  pivot_here = scales.at_dest (columns p) (columns_below p (omega arith)) ∙ F.inverse_mul (a (rows p) (columns p)) (elements (rows p) (columns p) (rows_are.below p in_rows) (columns_below p (omega arith))) nonzero

  pivot_before : (q : ℕ) → q < p → b (rows p) (columns q) ≡ 0
  pivot_before q l = scales.at_dest (columns q) (columns_below q (omega arith)) ∙ cc (first.zeros p q in_rows l (omega arith), mul_zero F (F.inverse (a (rows p) (columns p))))

  unscaled : (i k : ℕ) → i < count → k < width → i ≢ p → b (rows i) k ≡ a (rows i) k
  unscaled i k l m d = scales.elsewhere (rows i) k (rows_are.below i l) m (λ e. d (rows_are.apart i p l in_rows e))

  -- another row keeps what it had in the columns done, and gets 0 in this one
  other_before : (i q : ℕ) → i < count → i ≢ p → q < p → c (rows i) (columns q) ≡ a (rows i) (columns q)
  other_before i q l d m = clears.cleared i (columns q) l (columns_below q (omega arith)) d
      ∙ cc (pivot_before q m, mul_zero F (b (rows i) (columns p)), add_zero F (b (rows i) (columns q)), unscaled i (columns q) l (columns_below q (omega arith)) d)

  other_here : (i : ℕ) → i < count → i ≢ p → c (rows i) (columns p) ≡ 0
  other_here i l d =
      let small : b (rows i) (columns p) < F.size = rw (unscaled i (columns p) l (columns_below p (omega arith)) d) (elements (rows i) (columns p) (rows_are.below i l) (columns_below p (omega arith))) in
      clears.cleared i (columns p) l (columns_below p (omega arith)) d ∙ cc (pivot_here, mul_one F (b (rows i) (columns p)) small, F.add_self (b (rows i) (columns p)))

  pub first_pivots_more : HasFirstPivots count (p + 1) c rows columns
  first_pivots_more = record {
    ones = λ q l. elim (cases_eq q p) [
      | inl e ↦ rw e (clears.kept (columns p) (columns_below p (omega arith)) ∙ pivot_here)
      | inr d ↦ other_before q q (omega arith) d (omega arith) ∙ first.ones q (omega arith)
    ];
    zeros = λ i q l m d. elim (cases_eq i p) [
      | inl e ↦ rw e (clears.kept (columns q) (columns_below q (omega arith)) ∙ pivot_before q (omega arith))
      | inr f ↦ elim (cases_eq q p) [
        | inl e ↦ rw e (other_here i l f)
        | inr g ↦ other_before i q l f (omega arith) ∙ first.zeros i q l (omega arith) d
      ]
    ];
  }

-- all columns have pivots, and the rows that aren't among the pivots' are zeros
pub pivots_of_first : (F : Field) (height width count : ℕ) (a : ℕ → ℕ → ℕ) (rows columns : ℕ → ℕ) → ArePlaces count height rows → width ≤ count → ArePlaces width width columns → HasFirstPivots count width a rows columns
    → ((i p : ℕ) → i < height → ((q : ℕ) → q < width → rows q ≢ i) → p < width → a i (columns p) ≡ 0) → HasPivots F height width a rows columns
pivots_of_first F height width count a rows columns rows_are fits columns_are first rest = record {
  in_rows = record { below = λ i l. rows_are.below i (omega arith); apart = λ i j l m e. rows_are.apart i j (omega arith) (omega arith) e };
  in_columns = columns_are;
  ones = first.ones;
  zeros = λ p k l m d.
      let q = all_places width columns columns_are k m in
      ap (λ (j : ℕ). a (rows p) j) (sym q.2) ∙ first.zeros p q.0 (omega arith) q.1 (λ e. d (sym q.2 ∙ ap columns (sym e)));
  rest = λ i k l free m. let q = all_places width columns columns_are k m in rw (← q.2) (rest i q.0 l free q.1);
}
