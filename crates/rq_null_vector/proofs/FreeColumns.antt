-- What rows say of a column once pivots stand in the first columns: where each column has one only zeros solve the rows with all values
-- zero, and else the first column without one gives others.
use Rattle.std.proofs.Common.{Option, None, Some, Vec, Global, ◌≡◌, ◌≢◌, ℕ, suc, ◌+◌, ◌-◌, ◌<◌, ◌≤◌, List, ◌∷◌, ◌++◌, length, map, take, replicate, refl, sym, ap, ◌∙◌, zero-add, arith, inl, inr}
use Rattle.std.proofs.lemmas.Bool.{cases_eq, cases_lt}
use Rattle.std.proofs.lemmas.List.{get_or_append_left, get_or-append_right, get_or-map, get_or-replicate, get_or-take, length-append, length-map, length-replicate, length-take-le}
use Rattle.rq_algebra.specs.Arrangements.{ArePlaces}
use Rattle.rq_algebra.specs.Systems.{at, dot, IsColumn, IsDetermined, IsHomogeneousColumn}
use Rattle.rq_algebra.proofs.FewPlaces.{all_places}
use Rattle.rq_algebra.proofs.Solutions.{homogeneous_column_same, solves_same}
use Rattle.rq_algebra.proofs.Sums.{mul_one, zero_mul, mul_zero, dot_one, dot_zero, dot-suc, dot_split}
use Rattle.rq_standard.specs.OctetField.{octets}
use Rattle.rq_parts.specs.DenseOctetMatrix.{OctetTable, entry_of}
use Rattle.rq_null_vector.specs.Homogeneous.{ShowsHomogeneous, KeepsZeros, LacksPivot}
use Rattle.rq_elimination.specs.RowSteps.{AreRows}
use Rattle.rq_null_vector.specs.Reduced.{IsReduced}
use Rattle.rq_elimination.specs.LeadingRows.{HasLeading}
use Rattle.rq_elimination.proofs.RowStepLaws.{SameEntries}

-- a row with a 1, and another entry, makes zero of a column that has that entry and a 1 in these places
pub two_places : (width place free : ℕ) (row x : ℕ → ℕ) → place < free → free < width → row place ≡ 1 → ((k : ℕ) → k < free → k ≢ place → row k ≡ 0) → x place ≡ row free → x free ≡ 1 → ((k : ℕ) → free < k → k < width → x k ≡ 0) → row free < 256
    → dot octets width row x ≡ 0
two_places width place free row x before below one zeros same unit behind small =
    let rest : ℕ = width - suc free in
    let whole : suc free + rest ≡ width = omega arith in
    let first : dot octets free row x ≡ row free = dot_one octets free row x place before zeros ∙ cc (one, same, octets.one_mul (row free) small) in
    let upto : dot octets (suc free) row x ≡ 0 = dot-suc octets free row x ∙ cc (first, unit, mul_one octets (row free) small, octets.add_self (row free)) in
    let after : dot octets rest (λ k. row (suc free + k)) (λ k. x (suc free + k)) ≡ 0 = dot_zero octets rest _ _ (λ k l. ap (octets.mul (row (suc free + k))) (behind (suc free + k) (omega arith) (omega arith)) ∙ mul_zero octets (row (suc free + k))) in
    rw (← whole) (dot_split octets (suc free) rest row x ∙ cc (upto, after, octets.zero_add 0))

-- so does a row with zeros as far as the free place
pub disjoint_places : (width free : ℕ) (row x : ℕ → ℕ) → ((k : ℕ) → k ≤ free → row k ≡ 0) → ((k : ℕ) → free < k → k < width → x k ≡ 0) → dot octets width row x ≡ 0
disjoint_places width free row x zeros behind = dot_zero octets width row x (λ k l. elim (cases_lt free k) [
  | inl after ↦ ap (octets.mul (row k)) (behind k after l) ∙ mul_zero octets (row k)
  | inr before ↦ ap (λ (r : ℕ). octets.mul r (x k)) (zeros k before) ∙ zero_mul octets (x k)
])

module _ (start end : OctetTable) (rows : List ℕ) (keeps : KeepsZeros start end) (are : AreRows rows end) (all : length rows ≡ length end.rows) where
  pivot_one : (done p : ℕ) → IsReduced rows 0 done end → p < done → entry_of end (at rows p) p ≡ 1
  pivot_one done p reduced l = ap (entry_of end (at rows p)) (sym (zero-add p)) ∙ reduced.pivots.ones p l

  pivot_zero : (done i p : ℕ) → IsReduced rows 0 done end → i < length rows → p < done → i ≢ p → entry_of end (at rows i) p ≡ 0
  pivot_zero done i p reduced l m d = ap (entry_of end (at rows i)) (sym (zero-add p)) ∙ reduced.pivots.zeros i p l m d

  -- each column has a pivot
  pub determined_by_pivots : IsReduced rows 0 start.width end → IsDetermined octets (length start.rows) start.width (entry_of start)
  determined_by_pivots reduced x elements solves k l =
      let in_rows : k < length rows = omega (arith, reduced.fits) in
      let below : at rows k < length start.rows = omega (arith, are.below k in_rows, keeps.height) in
      let row : ℕ → ℕ = entry_of end (at rows k) in
      cc (
        (keeps.same.onward x solves).at (at rows k) below,
        dot_one octets start.width row x k l (λ j m d. pivot_zero start.width k j reduced in_rows m (λ e. d (sym e))),
        pivot_one start.width k reduced l,
        octets.one_mul (x k) (elements k l),
      )

  -- the column that the first one without a pivot gives
  module _ (free : ℕ) (lacks : LacksPivot rows free end) (column : List ℕ) (is : column ≡ map (λ row. entry_of end row free) (take free rows) ++ 1 ∷ replicate (start.width - free - 1) 0) where
    fits : free ≤ length rows
    fits = lacks.reduced.fits

    below : free < start.width
    below = omega (arith, lacks.below, keeps.width)

    abbrev before : List ℕ
    before = map (λ row. entry_of end row free) (take free rows)

    long : length before ≡ free
    long = length-map (take free rows) (λ row. entry_of end row free) ∙ length-take-le free rows fits

    at_before : (q : ℕ) → q < free → at column q ≡ entry_of end (at rows q) free
    at_before q l =
        ap (λ (xs : List ℕ). at xs q) is
        ∙ get_or_append_left before (1 ∷ replicate (start.width - free - 1) 0) 0 q (omega (arith, long))
        ∙ get_or-map (λ row. entry_of end row free) (take free rows) q 0 0 (omega (arith, length-take-le free rows fits))
        ∙ ap (λ (r : ℕ). entry_of end r free) (get_or-take free rows q 0 l)

    at_free : at column free ≡ 1
    at_free =
        let none : free - free ≡ 0 = omega arith in
        ap (λ (xs : List ℕ). at xs free) is ∙ get_or-append_right before (1 ∷ replicate (start.width - free - 1) 0) free free 0 long (omega arith) ∙ ap (at (1 ∷ replicate (start.width - free - 1) 0)) none

    at_behind : (k : ℕ) → free < k → k < start.width → at column k ≡ 0
    at_behind k l m =
        let next : k - free ≡ suc (k - free - 1) = omega arith in
        ap (λ (xs : List ℕ). at xs k) is ∙ get_or-append_right before (1 ∷ replicate (start.width - free - 1) 0) free k 0 long (omega arith)
        ∙ ap (at (1 ∷ replicate (start.width - free - 1) 0)) next ∙ get_or-replicate (start.width - free - 1) (k - free - 1) 0 0 (omega arith)

    count : length column ≡ start.width
    count = ap length is ∙ length-append before (1 ∷ replicate (start.width - free - 1) 0) ∙ omega (arith, long, below, length-replicate {A = ℕ} (start.width - free - 1) 0)

    elements : IsColumn octets start.width (at column)
    elements k l = elim (cases_lt k free) [
      | inl first ↦ rw (at_before k first) (keeps.octets_are.elements (at rows k) free (are.below k (omega (arith, fits))) lacks.below)
      | inr after ↦ elim (cases_eq k free) [
        | inl e ↦ rw (e, at_free) octets.one_below
        | inr d ↦ rw (at_behind k (omega arith) l) (omega (arith, octets.one_below))
      ]
    ]

    -- each row of the end makes zero of it
    says : (i : ℕ) → i < length rows → dot octets start.width (entry_of end (at rows i)) (at column) ≡ 0
    says i l = elim (cases_lt i free) [
      | inl first ↦ two_places start.width i free (entry_of end (at rows i)) (at column) first below (pivot_one free i lacks.reduced first) (λ k m d. pivot_zero free i k lacks.reduced l m (λ e. d (sym e))) (at_before i first) at_free at_behind
          (keeps.octets_are.elements (at rows i) free (are.below i l) lacks.below)
      | inr after ↦ disjoint_places start.width free (entry_of end (at rows i)) (at column) (λ k m. elim (cases_eq k free) [
        | inl e ↦ rw e (lacks.empty i after l)
        | inr d ↦ pivot_zero free i k lacks.reduced l (omega arith) (omega arith)
      ]) at_behind
    ]

    pub homogeneous_by_pivots : IsHomogeneousColumn octets (length start.rows) start.width (entry_of start) column
    homogeneous_by_pivots = record {
      count = count;
      elements = elements;
      solves = keeps.same.back (at column) record {
        at = λ i l.
            let placed : ArePlaces (length end.rows) (length end.rows) (at rows) = rw all at are in
            let q = all_places (length end.rows) (at rows) placed i (omega (arith, keeps.height)) in
            rw (← q.2) (says q.0 (omega (arith, q.1, all)));
      };
      index = free;
      below = below;
      nonzero = rw at_free (omega arith);
    }

-- systems with the same entries
module _ (height width : ℕ) (a b : ℕ → ℕ → ℕ) (same : SameEntries height width a b) where
  determined_same : IsDetermined octets height width a → IsDetermined octets height width b
  determined_same determined x elements solves = determined x elements (solves_same octets height width b a x (λ _. 0) (λ _. 0) (λ i k l m. sym (same i k l m)) (λ i l. refl) solves)

  pub shows_same : (answer : Option (Vec ℕ Global)) → ShowsHomogeneous height width a answer → ShowsHomogeneous height width b answer
  shows_same None determined = determined_same determined
  shows_same (Some column) shows = homogeneous_column_same octets height width a b same column.items shows

-- what the answer says of the rows that a table holds
module _ (height width : ℕ) (wanted : ℕ → ℕ → ℕ) (start end : OctetTable) (holds : HasLeading height width height wanted start) (wide : start.width ≡ width) (rows : List ℕ) (keeps : KeepsZeros start end) (are : AreRows rows end) (all : length rows ≡ length start.rows) where
  whole : length rows ≡ length end.rows
  whole = all ∙ sym keeps.height

  pub determined_rows : IsReduced rows 0 width end → IsDetermined octets height width wanted
  determined_rows reduced =
      let determined = determined_by_pivots start end rows keeps are whole (rw wide reduced) in
      determined_same height width (entry_of start) wanted holds.written (rw (wide, holds.height_is) at determined)

  pub homogeneous_rows : (free : ℕ) → LacksPivot rows free end → (column : List ℕ) → column ≡ map (λ row. entry_of end row free) (take free rows) ++ 1 ∷ replicate (width - free - 1) 0 → IsHomogeneousColumn octets height width wanted column
  homogeneous_rows free lacks column is =
      let shows = homogeneous_by_pivots start end rows keeps are whole free lacks column (rw wide is) in
      homogeneous_column_same octets height width (entry_of start) wanted holds.written column (rw (wide, holds.height_is) at shows)
