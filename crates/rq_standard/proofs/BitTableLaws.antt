-- Pairs of places and bits, one after another: after each pair, how often each place has come with a one. Proofs of crates above rest on these laws.
use Rattle.std.proofs.Common.{◌≡◌, ◌≢◌, ℕ, ◌+◌, ◌<◌, ◌≤◌, cond, List, [], ◌∷◌, ◌++◌, length, refl, sym, ap, ◌∙◌, subst, arith, append_assoc, inl, inr, eq-eqb, zero-add, add-zero}
use Rattle.std.specs.Prelude.{◌&&◌, ◌==◌}
use Rattle.std.proofs.lemmas.List.Sums.{sum_by-append}
use Rattle.std.proofs.lemmas.Bool.Decides.{eqb_tells}
use Rattle.std.proofs.Math.Seq.{get_or-append_seam}
use Rattle.std.proofs.lemmas.List.{length-append}
use Rattle.rq_standard.specs.BitTableSteps.{ones_at, AreOnesOf, IsPlaceAndBit}

-- whether a pair is a one at place k, as a number
abbrev pub is_one_at : ℕ → ℕ × ℕ → ℕ
is_one_at k pair = cond ((pair.0 == k) && (pair.1 == 1)) 1 0

pub is_one_at-other : (k : ℕ) (pair : ℕ × ℕ) → pair.0 ≢ k → is_one_at k pair ≡ 0
is_one_at-other k pair other = elim (eqb_tells pair.0 k) [ inl e ↦ absurd (other e.1) | inr e ↦ ap (λ b. cond (b && (pair.1 == 1)) 1 0) e.0 ]

pub is_one_at-one : (k : ℕ) (pair : ℕ × ℕ) → pair.0 ≡ k → pair.1 ≡ 1 → is_one_at k pair ≡ 1
is_one_at-one k pair same one = ap (λ b. cond (b && (pair.1 == 1)) 1 0) (eq-eqb pair.0 k same) ∙ ap (λ b. cond b 1 0) (eq-eqb pair.1 1 one)

pub is_one_at-zero : (k : ℕ) (pair : ℕ × ℕ) → pair.1 ≢ 1 → is_one_at k pair ≡ 0
is_one_at-zero k pair other =
    elim (eqb_tells pair.0 k) [
      | inl e ↦ ap (λ b. cond (b && (pair.1 == 1)) 1 0) e.0 ∙ elim (eqb_tells pair.1 1) [ inl f ↦ absurd (other f.1) | inr f ↦ ap (λ b. cond b 1 0) f.0 ]
      | inr e ↦ ap (λ b. cond (b && (pair.1 == 1)) 1 0) e.0
    ]

within_here : {X : Type 0} (taken rest : List X) (x : X) → length taken < length (taken ++ x ∷ rest)
within_here taken rest x = let both = length-append taken (x ∷ rest) in omega arith

ones_at-append : (k : ℕ) (taken : List (ℕ × ℕ)) (pair : ℕ × ℕ) → ones_at k (taken ++ pair ∷ []) ≡ ones_at k taken + is_one_at k pair
ones_at-append k taken pair = sum_by-append (is_one_at k) taken (pair ∷ []) ∙ ap (λ n. ones_at k taken + n) (zero-add (is_one_at k pair))

-- some pairs, then one, then others
ones_at-split : (k : ℕ) (taken rest : List (ℕ × ℕ)) (pair : ℕ × ℕ) → ones_at k (taken ++ pair ∷ rest) ≡ ones_at k taken + is_one_at k pair + ones_at k rest
ones_at-split k taken rest pair =
    ap (ones_at k) (sym (append_assoc taken (pair ∷ []) rest))
    ∙ sum_by-append (is_one_at k) (taken ++ pair ∷ []) rest
    ∙ ap (λ n. n + ones_at k rest) (ones_at-append k taken pair)

pub ones_at-cons : (k : ℕ) (pair : ℕ × ℕ) (rest : List (ℕ × ℕ)) → ones_at k (pair ∷ rest) ≡ is_one_at k pair + ones_at k rest
ones_at-cons k pair rest = ones_at-split k [] rest pair ∙ ap (λ n. n + ones_at k rest) (zero-add (is_one_at k pair))

-- What a pair changes, whatever comes after it: at its place its octet is now how often the place has come with a one.
pub record IsNextPair (bit : ℕ → ℕ) (start end : ℕ) (taken : List (ℕ × ℕ)) (pair : ℕ × ℕ) : Type 0 where
  pub place : IsPlaceAndBit bit start end pair
  pub first : pair.1 ≡ 1 → ones_at pair.0 taken ≡ 0
  pub here : ones_at pair.0 (taken ++ pair ∷ []) ≡ pair.1
  pub elsewhere : (k : ℕ) → k ≢ pair.0 → ones_at k (taken ++ pair ∷ []) ≡ ones_at k taken

pub is_next_pair : (bit : ℕ → ℕ) (start end : ℕ) (taken rest : List (ℕ × ℕ)) (pair : ℕ × ℕ) → ((k : ℕ) → start ≤ k → k < end → bit k < 2)
    → AreOnesOf bit start end (taken ++ pair ∷ rest) → IsNextPair bit start end taken pair
is_next_pair bit start end taken rest pair bits ones =
    let place : IsPlaceAndBit bit start end pair = subst (IsPlaceAndBit bit start end) (get_or-append_seam taken pair rest pair) (ones.within (length taken) pair (within_here taken rest pair)) in
    let small = bits pair.0 place.from place.below in
    let count = sym (ones_at-split pair.0 taken rest pair) ∙ ones.once pair.0 place.from place.below in
    let next = ones_at-append pair.0 taken pair in
    let octet = place.octet in
    let elsewhere = λ (k : ℕ) (other : k ≢ pair.0). ones_at-append k taken pair ∙ ap (λ n. ones_at k taken + n) (is_one_at-other k pair (λ e. other (sym e))) ∙ add-zero (ones_at k taken) in
    elim (eqb_tells pair.1 1) [
      | inl e ↦
          let one = is_one_at-one pair.0 pair refl e.1 in
          let is_one = e.1 in
          record { place = place; first = λ _. omega arith; here = omega arith; elsewhere = elsewhere }
      | inr e ↦
          let zero = is_one_at-zero pair.0 pair e.1 in
          let other = e.1 in
          record { place = place; first = λ f. absurd (other f); here = omega arith; elsewhere = elsewhere }
    ]
