-- One turn of an elimination: rows exchanged in their list, a row scaled, a column cleared.
use Rattle.std.proofs.Common.{◌≡◌, ◌≢◌, ℕ, ◌+◌, ◌<◌, ◌≤◌, List, length, refl, ap, ◌∙◌, arith, inl, inr}
use Rattle.std.proofs.lemmas.Bool.{cases_eq, cases_lt}
use Rattle.rq_algebra.specs.Steps.{AddsRow, ScalesRow}
use Rattle.rq_algebra.specs.Systems.{at}
use Rattle.rq_algebra.proofs.Places.{exchange_left, exchange_right, exchange_other}
use Rattle.rq_algebra.proofs.Sums.{mul_zero}
use Rattle.rq_standard.specs.OctetField.{octets}
use Rattle.rq_parts.specs.DenseOctetMatrix.{OctetTable, entry_of, HasOctets}
use Rattle.rq_solver.proofs.OctetSums.{plus_zero_times, plus_own}
use Rattle.rq_elimination.specs.RowSteps.{AreRows, ClearsBelow, IsEchelon}
use Rattle.rq_elimination.proofs.SwappedRows.{Exchanges, at-swapped}

-- ---- rows in echelon form

pub echelon_none : (rows : List ℕ) (table : OctetTable) → IsEchelon rows 0 table
echelon_none rows table = record { fits = omega arith; ones = λ p l. absurd (omega arith); zeros = λ i p l n m. absurd (omega arith) }

pub swapped_echelon : {rows swapped : List ℕ} {p q : ℕ} → Exchanges rows swapped p q → (done : ℕ) (table : OctetTable) → done ≤ p → done ≤ q → IsEchelon rows done table → IsEchelon swapped done table
swapped_echelon {rows} {swapped} {p} {q} exchanges done table left_p left_q echelon = record {
  fits = rw exchanges.len echelon.fits;
  ones = λ k l. ap (λ (r : ℕ). entry_of table r k) (at-swapped exchanges k ∙ ap (at rows) (exchange_other p q k (omega arith) (omega arith))) ∙ echelon.ones k l;
  zeros = λ i k l early m. ap (λ (r : ℕ). entry_of table r k) (at-swapped exchanges i) ∙ elim (cases_eq i p) [
    | inl e ↦ ap (λ (n : ℕ). entry_of table (at rows n) k) (exchange_left p q i e) ∙ echelon.zeros q k exchanges.right (omega arith) m
    | inr d ↦ elim (cases_eq i q) [
      | inl e ↦ ap (λ (n : ℕ). entry_of table (at rows n) k) (exchange_right p q i e) ∙ echelon.zeros p k exchanges.left (omega arith) m
      | inr f ↦ ap (λ (n : ℕ). entry_of table (at rows n) k) (exchange_other p q i d f) ∙ echelon.zeros i k (rw exchanges.len at l) early m
    ]
  ];
}

-- the row that stands at `done` is scaled, and clears its column in those behind it
module _ (rows : List ℕ) (done : ℕ) (a b c : OctetTable) (are : AreRows rows a) (in_rows : done < length rows) (in_columns : done < a.width) (octets_in : HasOctets a) (nonzero : entry_of a (at rows done) done ≢ 0)
    (scales : ScalesRow octets (length a.rows) a.width (at rows done) (octets.inverse (entry_of a (at rows done) done)) (entry_of a) (entry_of b)) (clears : ClearsBelow rows done (length rows) b c) (width : b.width ≡ a.width) (echelon : IsEchelon rows done a) where
  other_row : (i k : ℕ) → i < length rows → i ≢ done → k < a.width → entry_of b (at rows i) k ≡ entry_of a (at rows i) k
  other_row i k l d m = scales.elsewhere (at rows i) k (are.below i l) m (λ e. d (are.apart i done l in_rows e))

  pivot_one : entry_of b (at rows done) done ≡ 1
  pivot_one =
      let small = octets_in.elements (at rows done) done (are.below done in_rows) in_columns in
      scales.at_dest done in_columns ∙ octets.inverse_mul (entry_of a (at rows done) done) small nonzero

  pivot_zero : (p : ℕ) → p < done → entry_of b (at rows done) p ≡ 0
  pivot_zero p l = scales.at_dest p (omega arith) ∙ ap (octets.mul (octets.inverse (entry_of a (at rows done) done))) (echelon.zeros done p in_rows l l) ∙ mul_zero octets (octets.inverse (entry_of a (at rows done) done))

  zeros_next : (i p : ℕ) → i < length rows → p < i → p < done + 1 → entry_of c (at rows i) p ≡ 0
  zeros_next i p l early m = elim (cases_lt done i) [
    | inl behind ↦ clears.cleared i p behind l l (rw width (omega arith)) ∙ elim (cases_eq p done) [
      | inl e ↦
          let small : entry_of a (at rows i) done < 256 = octets_in.elements (at rows i) done (are.below i l) in_columns in
          let same = other_row i done l (omega arith) in_columns in
          rw (e, same) (plus_own (entry_of a (at rows i) done) (entry_of a (at rows i) done) (entry_of b (at rows done) done) small refl pivot_one)
      | inr d ↦
          plus_zero_times (entry_of b (at rows i) p) (entry_of b (at rows i) done) (entry_of b (at rows done) p) (pivot_zero p (omega arith))
          ∙ other_row i p l (omega arith) (omega arith) ∙ echelon.zeros i p l early (omega arith)
    ]
    | inr before ↦ clears.kept i p before l (rw width (omega arith)) ∙ elim (cases_eq i done) [
      | inl e ↦ rw e (pivot_zero p (omega arith))
      | inr d ↦ other_row i p l d (omega arith) ∙ echelon.zeros i p l early (omega arith)
    ]
  ]

  pub echelon_more : IsEchelon rows (done + 1) c
  echelon_more = record {
    fits = omega arith;
    ones = λ p l. elim (cases_eq p done) [
      | inl e ↦ rw e (clears.kept done done (omega arith) in_rows (rw width in_columns) ∙ pivot_one)
      | inr d ↦ clears.kept p p (omega arith) (omega arith) (rw width (omega arith)) ∙ other_row p p (omega arith) d (omega arith) ∙ echelon.ones p (omega arith)
    ];
    zeros = zeros_next;
  }

-- ---- rows behind a pivot's are cleared one by one

module _ (rows : List ℕ) (pivot : ℕ) (in_pivot : pivot < length rows) where
  pub below_none : (table : OctetTable) → ClearsBelow rows pivot (pivot + 1) table table
  below_none table = record { kept = λ i k l n m. refl; cleared = λ i k l n m o. absurd (omega arith); rest = λ i k l n m o. refl }

  pub below_more : (t : ℕ) (old cur new : OctetTable) → AreRows rows old → pivot < t → t < length rows → pivot < old.width → length cur.rows ≡ length old.rows → cur.width ≡ old.width → ClearsBelow rows pivot t old cur
      → AddsRow octets (length cur.rows) cur.width (at rows t) (at rows pivot) (entry_of cur (at rows t) pivot) (entry_of cur) (entry_of new) → ClearsBelow rows pivot (t + 1) old new
  below_more t old cur new are late in_rows in_width height width v adds =
      let other : (i k : ℕ) → i < length rows → i ≢ t → k < old.width → entry_of new (at rows i) k ≡ entry_of cur (at rows i) k = (λ (i k : ℕ) (l : i < length rows) (d : i ≢ t) (m : k < old.width).
      adds.elsewhere (at rows i) k (rw height (are.below i l)) (rw width m) (λ e. d (are.apart i t l in_rows e))) in
      record {
        kept = λ i k l n m. other i k n (omega arith) m ∙ v.kept i k l n m;
        cleared = λ i k l n m o. elim (cases_eq i t) [
          | inl e ↦
              let own : entry_of cur (at rows t) pivot ≡ entry_of old (at rows t) pivot = v.rest t pivot late (omega arith) in_rows in_width in
              let here : entry_of cur (at rows t) k ≡ entry_of old (at rows t) k = v.rest t k late (omega arith) in_rows o in
              let src : entry_of cur (at rows pivot) k ≡ entry_of old (at rows pivot) k = v.kept pivot k (omega arith) in_pivot o in
              rw e (adds.at_dest k (rw width o) ∙ rw (own, here, src) refl)
          | inr d ↦ other i k m d o ∙ v.cleared i k l (omega arith) m o
        ];
        rest = λ i k l n m o. other i k m (omega arith) o ∙ v.rest i k l (omega arith) m o;
      }
