-- The ones of a sparse row, one after another.
use Rattle.std.proofs.Common.{◌≡◌, ℕ, ◌<◌, ◌≤◌, ◌⊎◌, All, List, ◌∷◌, length, get_or, cond, true, false, inl, inr, sym, ap, subst, ◌∙◌, arith}
use Rattle.std.specs.List.{IsFirstAndRest}
use Rattle.std.proofs.lemmas.List.Elements.{All-tail}
use Rattle.std.proofs.lemmas.Bool.Decides.{nat_tests}
use Rattle.rq_parts.specs.BitPairs.{in_range, sparse_pairs}

-- ---- the test of a range

pub in_range-true : (start end place : ℕ) → start ≤ place → place < end → in_range start end place ≡ true
in_range-true start end place from below = grind (arith, nat_tests, from, below)

pub in_range-false : (start end place : ℕ) → (place < start) ⊎ (end ≤ place) → in_range start end place ≡ false
in_range-false start end place outside = elim outside [ inl low ↦ grind (arith, nat_tests, low) | inr high ↦ grind (arith, nat_tests, high) ]

pub range-from : (start end place : ℕ) → in_range start end place ≡ true → start ≤ place
range-from start end place is = grind (arith, nat_tests, is)

pub range-below : (start end place : ℕ) → in_range start end place ≡ true → place < end
range-below start end place is = grind (arith, nat_tests, is)

-- ---- pairs that are left

-- what is left of the pairs, and that each one has a column
pub record IsLeft (pairs : List (ℕ × ℕ)) (ones columns : List ℕ) (start end : ℕ) : Type 0 where
  pub left : sparse_pairs ones columns start end ≡ pairs
  pub known : All (λ one. one < length columns) ones

module _ (pairs : List (ℕ × ℕ)) (ones columns : List ℕ) (start end one : ℕ) (rest : List ℕ) (first : IsFirstAndRest ones one rest) (is : IsLeft pairs ones columns start end) where
  pub known_rest : All (λ k. k < length columns) rest
  known_rest = All-tail (λ k. k < length columns) one rest (subst (All (λ k. k < length columns)) first.0 is.known)

  -- the first one's column isn't in the range
  pub left_skipped : (get_or columns one 0 < start) ⊎ (end ≤ get_or columns one 0) → IsLeft pairs rest columns start end
  left_skipped outside =
      let column = get_or columns one 0 in
      record {
        left = sym (ap (λ b. cond b ((column, 1) ∷ sparse_pairs rest columns start end) (sparse_pairs rest columns start end)) (in_range-false start end column outside)) ∙ sym (ap (λ xs. sparse_pairs xs columns start end) first.0) ∙ is.left;
        known = known_rest;
      }
