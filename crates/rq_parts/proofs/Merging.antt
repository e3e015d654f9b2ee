-- Two ascending lists of ones that are merged into their sum.
use Rattle.std.proofs.Common.{◌≡◌, ◌≢◌, ℕ, ◌+◌, ◌-◌, ◌<◌, ◌≤◌, ◌⊎◌, List, [], ◌∷◌, ◌++◌, Bool, true, length, get_or, drop, refl, sym, ap, subst, ◌∙◌, inl, inr, arith, append-nil}
use Rattle.std.proofs.lemmas.List.{drop_more}
use Rattle.std.specs.List.Sorted.{IsStrictlyIncreasing}
use Rattle.std.specs.Int.Bits.{bit_xor, xor_zero_l, xor_zero_r}
use Rattle.std.proofs.lemmas.Bool.Decides.{eqb_tells}
use Rattle.rq_parts.specs.SparseBinaryVec.{listed_bit, IsListedSum, HasOtherOne}
use Rattle.rq_parts.specs.ListedLaws.{listed-self, listed-other, listed-first, listed-behind, listed-below, rises-tail}
use Rattle.rq_parts.proofs.ListedBits.{listed-append, rises-join, rises-one, last-more}

-- what is merged ends below what is left of a list
abbrev EndsBelow : List ℕ → List ℕ → Type 0
EndsBelow sum left = 0 < length sum → 0 < length left → get_or sum (length sum - 1) 0 < get_or left 0 0

-- what is merged, and what is left of each list
pub record Merges (row other sum : List ℕ) (added : Bool) (left right : List ℕ) : Type 0 where
  pub sum_rises : IsStrictlyIncreasing sum
  pub left_rises : IsStrictlyIncreasing left
  pub right_rises : IsStrictlyIncreasing right
  pub left_above : EndsBelow sum left
  pub right_above : EndsBelow sum right
  pub bits : (k : ℕ) → listed_bit sum k + bit_xor (listed_bit left k) (listed_bit right k) ≡ bit_xor (listed_bit row k) (listed_bit other k)
  pub some : (added ≡ true) ⊎ HasOtherOne left right → HasOtherOne row other
  pub none : HasOtherOne row other → (added ≡ true) ⊎ HasOtherOne left right

-- one more that is merged, with what its bit then is
module _ (sum : List ℕ) (x : ℕ) where
  more_rises : IsStrictlyIncreasing sum → (0 < length sum → get_or sum (length sum - 1) 0 < x) → IsStrictlyIncreasing (sum ++ x ∷ [])
  more_rises up last = rises-join sum (x ∷ []) up (rises-one x) (λ some one. last some)

  more_below : (xs : List ℕ) → (0 < length xs → x < get_or xs 0 0) → EndsBelow (sum ++ x ∷ []) xs
  more_below xs first some left = omega (arith, last-more sum x, first left)

  more_self : (k : ℕ) → k ≡ x → listed_bit (sum ++ x ∷ []) k ≡ listed_bit sum k + 1
  more_self k same = listed-append sum (x ∷ []) k ∙ ap (λ n. listed_bit sum k + n) (listed-self x [] k same)

  more_other : (k : ℕ) → k ≢ x → listed_bit (sum ++ x ∷ []) k ≡ listed_bit sum k
  more_other k other = omega (arith, listed-append sum (x ∷ []) k, listed-other x [] k other)

module _ (x : ℕ) (xs : List ℕ) (up : IsStrictlyIncreasing (x ∷ xs)) where
  first_self : (k : ℕ) → k ≡ x → listed_bit (x ∷ xs) k ≡ 1
  first_self k same = ap (listed_bit (x ∷ xs)) same ∙ listed-first x xs up

  first_behind : (k : ℕ) → k ≡ x → listed_bit xs k ≡ 0
  first_behind k same = ap (listed_bit xs) same ∙ listed-behind x xs up

  -- what isn't in the whole isn't in the rest
  none_behind : (k : ℕ) → listed_bit (x ∷ xs) k ≡ 0 → listed_bit xs k ≡ 0
  none_behind k none = elim (eqb_tells k x) [ inl e ↦ first_behind k e.1 | inr e ↦ sym (listed-other x xs k e.1) ∙ none ]

two_bits : {a b c d : ℕ} → a ≡ c → b ≡ d → bit_xor a b ≡ bit_xor c d
two_bits {a} {b} {c} {d} first second = ap (λ n. bit_xor n b) first ∙ ap (bit_xor c) second

module _ (row other sum : List ℕ) (added : Bool) (x y : ℕ) (xs ys : List ℕ) (m : Merges row other sum added (x ∷ xs) (y ∷ ys)) where
  -- the row's one comes first
  pub merges_row : x < y → Merges row other (sum ++ x ∷ []) added xs (y ∷ ys)
  merges_row less =
      let absent : (k : ℕ) → k ≡ x → listed_bit (y ∷ ys) k ≡ 0 = λ k same. listed-below (y ∷ ys) k m.right_rises (λ some. omega (arith, same, less)) in
      record {
        sum_rises = more_rises sum x m.sum_rises (λ some. m.left_above some (omega arith));
        left_rises = rises-tail x xs m.left_rises;
        right_rises = m.right_rises;
        left_above = more_below sum x xs (λ some. m.left_rises 0 (omega arith));
        right_above = more_below sum x (y ∷ ys) (λ some. less);
        bits = λ k. elim (eqb_tells k x) [
          | inl e ↦
              let new = two_bits (first_behind x xs m.left_rises k e.1) (absent k e.1) in
              let old = two_bits (first_self x xs m.left_rises k e.1) (absent k e.1) in
              omega (arith, more_self sum x k e.1, new, old, m.bits k)
          | inr e ↦
              let same = ap (λ n. bit_xor n (listed_bit (y ∷ ys) k)) (listed-other x xs k e.1) in
              omega (arith, more_other sum x k e.1, same, m.bits k)
        ];
        some = λ s. elim s [
          | inl e ↦ m.some (inl e)
          | inr h ↦ m.some (inr (h.0, listed-other x xs h.0 (λ same. omega (arith, absent h.0 same, h.2)) ∙ h.1, h.2))
        ];
        none = λ h. elim (m.none h) [ inl e ↦ inl e | inr w ↦ inr (w.0, none_behind x xs m.left_rises w.0 w.1, w.2) ];
      }

  -- the other's one comes first
  pub merges_other : y < x → Merges row other (sum ++ y ∷ []) true (x ∷ xs) ys
  merges_other less =
      let absent : (k : ℕ) → k ≡ y → listed_bit (x ∷ xs) k ≡ 0 = λ k same. listed-below (x ∷ xs) k m.left_rises (λ some. omega (arith, same, less)) in
      record {
        sum_rises = more_rises sum y m.sum_rises (λ some. m.right_above some (omega arith));
        left_rises = m.left_rises;
        right_rises = rises-tail y ys m.right_rises;
        left_above = more_below sum y (x ∷ xs) (λ some. less);
        right_above = more_below sum y ys (λ some. m.right_rises 0 (omega arith));
        bits = λ k. elim (eqb_tells k y) [
          | inl e ↦
              let new = two_bits (absent k e.1) (first_behind y ys m.right_rises k e.1) in
              let old = two_bits (absent k e.1) (first_self y ys m.right_rises k e.1) in
              omega (arith, more_self sum y k e.1, new, old, m.bits k)
          | inr e ↦
              let same = ap (bit_xor (listed_bit (x ∷ xs) k)) (listed-other y ys k e.1) in
              omega (arith, more_other sum y k e.1, same, m.bits k)
        ];
        some = λ s. m.some (inr (y, absent y refl, first_self y ys m.right_rises y refl));
        none = λ h. inl refl;
      }

  -- both have the one, which cancels
  pub merges_both : x ≡ y → Merges row other sum added xs ys
  merges_both both = record {
    sum_rises = m.sum_rises;
    left_rises = rises-tail x xs m.left_rises;
    right_rises = rises-tail y ys m.right_rises;
    left_above = λ some left. omega (arith, m.left_above some (omega arith), m.left_rises 0 (omega arith));
    right_above = λ some right. omega (arith, m.right_above some (omega arith), m.right_rises 0 (omega arith));
    bits = λ k. elim (eqb_tells k x) [
      | inl e ↦
          let new = two_bits (first_behind x xs m.left_rises k e.1) (first_behind y ys m.right_rises k (e.1 ∙ both)) in
          let old = two_bits (first_self x xs m.left_rises k e.1) (first_self y ys m.right_rises k (e.1 ∙ both)) in
          omega (arith, new, old, m.bits k)
      | inr e ↦
          let same = two_bits (listed-other x xs k e.1) (listed-other y ys k (λ is. e.1 (is ∙ sym both))) in
          omega (arith, same, m.bits k)
    ];
    some = λ s. elim s [
      | inl e ↦ m.some (inl e)
      | inr h ↦
          let apart : h.0 ≢ x = λ same. omega (arith, first_behind y ys m.right_rises h.0 (same ∙ both), h.2) in
          m.some (inr (h.0, listed-other x xs h.0 apart ∙ h.1, listed-other y ys h.0 (λ is. apart (is ∙ sym both)) ∙ h.2))
    ];
    none = λ h. elim (m.none h) [
      | inl e ↦ inl e
      | inr w ↦
          let apart : w.0 ≢ x = λ same. omega (arith, first_self x xs m.left_rises w.0 same, w.1) in
          inr (w.0, none_behind x xs m.left_rises w.0 w.1, sym (listed-other y ys w.0 (λ is. apart (is ∙ sym both))) ∙ w.2)
    ];
  }

-- ---- where one of the lists has ended, the rest of the other comes behind

pub record IsMerged (row other sum : List ℕ) (added : Bool) (rest : ℕ) : Type 0 where
  pub rises : IsStrictlyIncreasing sum
  pub bits : IsListedSum row other sum
  pub some : (added ≡ true) ⊎ (0 < rest) → HasOtherOne row other
  pub none : HasOtherOne row other → (added ≡ true) ⊎ (0 < rest)

pub merges_all : (row other sum : List ℕ) (added : Bool) (left right : List ℕ) → Merges row other sum added left right → (length left ≡ 0) ⊎ (length right ≡ 0) → IsMerged row other ((sum ++ left) ++ right) added (length right)
merges_all row other sum added left [] m ended = record {
  rises = subst IsStrictlyIncreasing (sym (append-nil (sum ++ left))) (rises-join sum left m.sum_rises m.left_rises m.left_above);
  bits = λ k. omega (arith, ap (λ xs. listed_bit xs k) (append-nil (sum ++ left)), listed-append sum left k, xor_zero_r (listed_bit left k), m.bits k);
  some = λ s. elim s [ inl e ↦ m.some (inl e) | inr some ↦ absurd (omega arith) ];
  none = λ h. elim (m.none h) [ inl e ↦ inl e | inr w ↦ (let one : listed_bit [] w.0 ≡ 1 = w.2 in absurd (omega arith)) ];
}
merges_all row other sum added [] (y ∷ ys) m ended = record {
  rises = subst (λ xs. IsStrictlyIncreasing (xs ++ y ∷ ys)) (sym (append-nil sum)) (rises-join sum (y ∷ ys) m.sum_rises m.right_rises m.right_above);
  bits = λ k. omega (arith, ap (λ xs. listed_bit (xs ++ y ∷ ys) k) (append-nil sum), listed-append sum (y ∷ ys) k, xor_zero_l (listed_bit (y ∷ ys) k), m.bits k);
  some = λ s. m.some (inr (y, refl, listed-first y ys m.right_rises));
  none = λ h. inr (omega arith);
}
merges_all row other sum added (x ∷ xs) (y ∷ ys) m ended = absurd (elim ended [ inl e ↦ omega arith | inr e ↦ omega arith ])

-- ---- by indices

pub record IsMerging (row other sum : List ℕ) (added : Bool) (i j : ℕ) : Type 0 where
  pub merges : Merges row other sum added (drop i row) (drop j other)
  pub row_within : i ≤ length row
  pub other_within : j ≤ length other

module _ (row other sum : List ℕ) (added : Bool) (i j : ℕ) (m : Merges row other sum added (drop i row) (drop j other)) (left : i < length row) (right : j < length other) where
  both_left : Merges row other sum added (get_or row i 0 ∷ drop (i + 1) row) (get_or other j 0 ∷ drop (j + 1) other)
  both_left = subst (λ xs. Merges row other sum added xs (get_or other j 0 ∷ drop (j + 1) other)) (drop_more row i 0 left) (subst (Merges row other sum added (drop i row)) (drop_more other j 0 right) m)

  pub next_row : get_or row i 0 < get_or other j 0 → Merges row other (sum ++ get_or row i 0 ∷ []) added (drop (i + 1) row) (drop j other)
  next_row less = subst (Merges row other (sum ++ get_or row i 0 ∷ []) added (drop (i + 1) row)) (sym (drop_more other j 0 right)) (merges_row row other sum added _ _ _ _ both_left less)

  pub next_other : get_or other j 0 < get_or row i 0 → Merges row other (sum ++ get_or other j 0 ∷ []) true (drop i row) (drop (j + 1) other)
  next_other less = subst (λ xs. Merges row other (sum ++ get_or other j 0 ∷ []) true xs (drop (j + 1) other)) (sym (drop_more row i 0 left)) (merges_other row other sum added _ _ _ _ both_left less)

  pub next_both : get_or row i 0 ≡ get_or other j 0 → Merges row other sum added (drop (i + 1) row) (drop (j + 1) other)
  next_both = merges_both row other sum added _ _ _ _ both_left
