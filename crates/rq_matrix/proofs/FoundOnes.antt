-- Places of ones, found one after another.
use Rattle.std.proofs.Common.{◌≡◌, ℕ, suc, ◌+◌, ◌-◌, ◌<◌, ◌≤◌, ◌⊎◌, Bool, true, false, cond, List, [], ◌∷◌, ◌++◌, Vec, Global, length, vec_len, refl, sym, ap, subst, ◌∙◌, arith, inl, inr, zero-add, add-zero, eqb-true}
use Rattle.std.specs.Prelude.{◌==◌, count_by, vec_capacity}
use Rattle.std.specs.List.Sorted.{IsStrictlyIncreasing}
use Rattle.std.proofs.lemmas.Bool.{eqb-false, cases_lt}
use Rattle.rq_parts.proofs.ListedBits.{rises-join, rises-one}
use Rattle.std.specs.List.{All}
use Rattle.std.proofs.lemmas.List.Elements.{All-cons, All-append}
use Rattle.std.proofs.lemmas.List.Sums.{sum_by-cons, sum_by-append}
use Rattle.std.proofs.lemmas.Bool.Decides.{eqb_tells}
use Rattle.rq_standard.specs.BitTableSteps.{ArePlacesOfOnes}

-- a place that none of a list is
count-above : (k : ℕ) (places : List ℕ) → All (λ place. place < k) places → count_by (λ place. place == k) places ≡ 0
count-above k [] all = refl
count-above k (place ∷ places) all =
    let below : place < k = all 0 place (omega arith) in
    let rest = count-above k places (λ i d lt. all (suc i) d (omega arith)) in
    let head : cond (place == k) 1 0 ≡ 0 = elim (eqb_tells place k) [ inl e ↦ (let same = e.1 in absurd (omega arith)) | inr e ↦ ap (λ b. cond b 1 0) e.0 ] in
    sum_by-cons (λ p. cond (p == k) 1 0) place places ∙ ap (λ n. n + count_by (λ p. p == k) places) head ∙ zero-add (count_by (λ p. p == k) places) ∙ rest

count-push : (k place : ℕ) (places : List ℕ) → count_by (λ p. p == k) (places ++ place ∷ []) ≡ count_by (λ p. p == k) places + cond (place == k) 1 0
count-push k place places = sum_by-append (λ p. cond (p == k) 1 0) places (place ∷ []) ∙ ap (λ n. count_by (λ p. p == k) places + n) (zero-add (cond (place == k) 1 0))

-- the places on the way to a later one have no ones
pub places-pass : (bit : ℕ → ℕ) (start next later : ℕ) (places : List ℕ) → next ≤ later → ArePlacesOfOnes bit start next places → ((k : ℕ) → next ≤ k → k < later → bit k ≡ 0) → ArePlacesOfOnes bit start later places
places-pass bit start next later places on found none = record {
  within = λ i d lt. let old = found.within i d lt in (old.0, (let below = old.1 in omega arith));
  once = λ k from below.
      elim (cases_lt k next) [
        | inl before ↦ found.once k from before
        | inr after ↦ count-above k places (λ i d lt. let old = (found.within i d lt).1 in omega arith) ∙ sym (none k after below)
      ];
}

-- the next place has a zero
pub places-skip : (bit : ℕ → ℕ) (start next : ℕ) (places : List ℕ) → ArePlacesOfOnes bit start next places → bit next ≡ 0 → ArePlacesOfOnes bit start (next + 1) places
places-skip bit start next places found none = places-pass bit start next (next + 1) places (omega arith) found (λ k from below. ap bit {y = next} (omega arith) ∙ none)

-- the next place has a one
pub places-push : (bit : ℕ → ℕ) (start next : ℕ) (places : List ℕ) → start ≤ next → ArePlacesOfOnes bit start next places → bit next ≡ 1 → ArePlacesOfOnes bit start (next + 1) (places ++ next ∷ [])
places-push bit start next places from found one = record {
  within = All-append (λ k. (start ≤ k) × (k < next + 1)) places (next ∷ []) (λ i d lt. let old = found.within i d lt in (old.0, (let below = old.1 in omega arith)))
      (All-cons (λ k. (start ≤ k) × (k < next + 1)) next [] (from, omega arith) (λ i d lt. absurd (omega arith)));
  once = λ k lower below.
      count-push k next places
      ∙ elim (eqb_tells next k) [
        | inl e ↦
            let none : count_by (λ place. place == k) places ≡ 0 = ap (λ n. count_by (λ place. place == n) places) (sym e.1) ∙ count-above next places (λ i d lt. (found.within i d lt).1) in
            ap (λ n. n + cond (next == k) 1 0) none ∙ ap (λ b. 0 + cond b 1 0) e.0 ∙ sym one ∙ ap bit e.1
        | inr e ↦ ap (λ b. count_by (λ place. place == k) places + cond b 1 0) e.0 ∙ add-zero (count_by (λ place. place == k) places) ∙ found.once k lower (let other = e.1 in omega arith)
      ];
}

pub places-none : (bit : ℕ → ℕ) (start : ℕ) → ArePlacesOfOnes bit start start []
places-none bit start = record { within = λ i d lt. absurd (omega arith); once = λ k from below. absurd (omega arith) }

-- ---- places that are looked at one after another

-- the places before the next one, ascending, in a list with room for all
pub record AreFound (bit : ℕ → ℕ) (start next end : ℕ) (out : Vec ℕ Global) : Type 0 where
  pub places : ArePlacesOfOnes bit start next out.items
  pub ascending : IsStrictlyIncreasing out.items
  pub few : vec_len out + start ≤ next
  pub room : end - start ≤ vec_capacity out

rises-push : (bit : ℕ → ℕ) (start next : ℕ) (places : List ℕ) → ArePlacesOfOnes bit start next places → IsStrictlyIncreasing places → IsStrictlyIncreasing (places ++ next ∷ [])
rises-push bit start next places are up = rises-join places (next ∷ []) up (rises-one next) (λ some one. (are.within (length places - 1) 0 (omega arith)).1)

-- a later place, the first one that has a one, is put behind them
pub found_after : (bit : ℕ → ℕ) (start next end place : ℕ) (old now : Vec ℕ Global) → AreFound bit start next end old → start ≤ next → next ≤ place → ((k : ℕ) → next ≤ k → k < place → bit k ≡ 0) → bit place ≡ 1
    → now.items ≡ old.items ++ place ∷ [] → vec_len now ≡ vec_len old + 1 → vec_capacity now ≡ vec_capacity old → AreFound bit start (place + 1) end now
found_after bit start next end place old now found from on none one items len capacity =
    let here : ArePlacesOfOnes bit start place old.items = places-pass bit start next place old.items on found.places none in
    record {
      places = subst (ArePlacesOfOnes bit start (place + 1)) (sym items) (places-push bit start place old.items (omega arith) here one);
      ascending = subst IsStrictlyIncreasing (sym items) (rises-push bit start place old.items here found.ascending);
      few = omega (arith, len, found.few);
      room = omega (arith, capacity, found.room);
    }

-- the next place is put behind them where its bit is a one
pub found_next : (bit : ℕ → ℕ) (start next end : ℕ) (old now : Vec ℕ Global) → AreFound bit start next end old → start ≤ next → bit next < 2 → (octet one : ℕ) (same : Bool) → octet ≡ bit next → one ≡ 1 → same ≡ (octet == one)
    → ((same ≡ true) × (now.items ≡ old.items ++ next ∷ []) × (vec_len now ≡ vec_len old + 1) × (vec_capacity now ≡ vec_capacity old)) ⊎ ((same ≡ false) × (now ≡ old)) → AreFound bit start (next + 1) end now
found_next bit start next end old now found from small octet one same is_octet is_one told (inl (holds, items, len, capacity)) =
    let set : bit next ≡ 1 = sym is_octet ∙ eqb-true octet one (sym told ∙ holds) ∙ is_one in
    found_after bit start next end next old now found from (omega arith) (λ k past below. absurd (omega arith)) set items len capacity
found_next bit start next end old now found from small octet one same is_octet is_one told (inr (fails, unchanged)) =
    let clear : bit next ≡ 0 = omega (arith, small, λ (set : bit next ≡ 1). eqb-false octet one (sym told ∙ fails) (is_octet ∙ set ∙ sym is_one)) in
    let kept : AreFound bit start next end now = subst (AreFound bit start next end) (sym unchanged) found in
    record { places = places-skip bit start next now.items kept.places clear; ascending = kept.ascending; few = omega (arith, kept.few); room = kept.room }
