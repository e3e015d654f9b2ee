-- The ones of a matrix of bits are rows of bits, and leave the HDPC rows empty.
use Rattle.std.proofs.Common.{◌≡◌, ℕ, ◌+◌, ◌<◌, ◌≤◌, ◌==◌, List, [], ◌∷◌, All, length, refl, sym, ◌∙◌, arith, inl, inr}
use Rattle.std.specs.List.{count_by}
use Rattle.std.proofs.lemmas.Bool.{cases_lt}
use Rattle.std.proofs.lemmas.List.Elements.{All-weaker}
use Rattle.rq_algebra.specs.Systems.{at}
use Rattle.rq_standard.specs.BitTableSteps.{ArePlacesOfOnes}
use Rattle.rq_parts.specs.DenseOctetMatrix.{OctetTable}
use Rattle.rq_peeling.specs.SystemRows.{AreRowsOfBits, AreOctetRows}
use Rattle.rq_peeling.specs.RowOnes.{AreOnesOfRows, ones_of}
use Rattle.rq_algebra.proofs.FewPlaces.{few_places}
use Rattle.rq_peeling.proofs.Counting.{count_contains, twice_counted}

-- the columns in which a row of bits has ones
pub record AreColumnsOfRow (width : ℕ) (columns : List ℕ) : Type 0 where
  pub within : All (λ k. k < width) columns
  pub once : (k : ℕ) → k < width → count_by (λ x. x == k) columns ≤ 1

-- a row of bits has at most as many ones as columns
pub few_columns : (width : ℕ) (columns : List ℕ) → AreColumnsOfRow width columns → length columns ≤ width
few_columns width columns are = few_places (length columns) width (at columns) (record {
  below = λ i l. are.within i 0 l;
  apart = λ i j l m e. elim (cases_lt i j) [
    | inl before ↦ absurd (twice_counted columns i j before m e (are.once (at columns j) (are.within j 0 m)))
    | inr after ↦ elim (cases_lt j i) [
      | inl before ↦ absurd (twice_counted columns j i before l (sym e) (are.once (at columns i) (are.within i 0 l)))
      | inr same ↦ omega (arith, after, same)
    ]
  ];
})

-- a row of zeros has no ones
no_places : (bit : ℕ → ℕ) (width : ℕ) (places : List ℕ) → ArePlacesOfOnes bit 0 width places → ((k : ℕ) → k < width → bit k ≡ 0) → places ≡ []
no_places bit width [] are zeros = refl
no_places bit width (k ∷ places) are zeros =
    let below : k < width = (are.within 0 k (omega arith)).1 in
    let some = count_contains (k ∷ places) k (0, (omega arith), refl) in
    let none = are.once k (omega arith) below ∙ zeros k below in
    absurd (omega (arith, some, none))

module _ (height width : ℕ) (bit : ℕ → ℕ → ℕ) (lists : List (List ℕ)) (are : AreOnesOfRows height width bit lists) where
  pub are_rows_of_bits : ((i k : ℕ) → i < height → k < width → bit i k < 2) → AreRowsOfBits width lists
  are_rows_of_bits bits = record {
    within = λ i l. All-weaker (λ k. (0 ≤ k) × (k < width)) (λ k. k < width) (λ k b. b.1) (ones_of lists i) (are.each i (rw are.count at l)).within;
    once = λ i k l m. let inside : i < height = rw are.count at l in omega (arith, (are.each i inside).once k (omega arith) m, bits i k inside m);
  }

  pub octet_rows : (first : ℕ) (hdpc : OctetTable) → hdpc.width ≡ width → first + length hdpc.rows ≤ height → ((i k : ℕ) → i < length hdpc.rows → k < width → bit (first + i) k ≡ 0) → AreOctetRows lists first width hdpc
  octet_rows first hdpc wide inside zeros = record {
    width_is = wide;
    within = rw are.count inside;
    empty = λ i l. no_places (bit (first + i)) width (ones_of lists (first + i)) (are.each (first + i) (omega arith)) (λ k m. zeros i k l m);
  }
