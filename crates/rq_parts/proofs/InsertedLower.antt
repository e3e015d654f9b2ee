-- A number at the end of a list that is moved down to its place.
use Rattle.std.proofs.Common.{◌≡◌, ℕ, zero, suc, ◌+◌, ◌-◌, ◌<◌, ◌≤◌, ◌==◌, ◌||◌, ◌↔◌, Bool, true, false, List, [], ◌∷◌, ◌++◌, length, get_or, set, take, max, min, refl, sym, ap, ◌∙◌, inl, inr, arith, append-nil, Contains}
use mathlib.Core.Bool.{false≢true}
use native.Mathlib.Numerals.{unary_clauses}
use Rattle.std.specs.List.{insert, refill, swap}
use Rattle.std.specs.List.Sorted.{IsStrictlyIncreasing}
use Rattle.std.proofs.lemmas.Bool.{cases_lt}
use Rattle.std.proofs.lemmas.Bool.Decides.{eqb_tells}
use Rattle.std.proofs.lemmas.List.{take_all, drop_all, length-append, get_or_append_left, get_or_default, set-set, set-get_or, get_or-set_same, get_or-set_other}
use Rattle.std.proofs.lemmas.List.Edits.{length-insert, get_or-insert_below, get_or-insert_at, swap_is}
use Rattle.rq_parts.specs.SparseBinaryVec.{IsInsertionPlace}
use Rattle.rq_parts.proofs.ListedBits.{last-more}

set_lower : (xs : List ℕ) (one at : ℕ) → at < length xs → set (set (insert xs (suc at) one) at (get_or (insert xs (suc at) one) (suc at) 0)) (suc at) (get_or (insert xs (suc at) one) at 0) ≡ insert xs at one
set_lower [] one at l = absurd (omega arith)
set_lower (x ∷ xs) one zero l = refl
set_lower (x ∷ xs) one (suc at) l = ap (λ ys. x ∷ ys) (set_lower xs one at (omega arith))

pub inserted_lower : (xs : List ℕ) (one at : ℕ) → 0 < at → at ≤ length xs → swap (insert xs at one) (at - 1) at ≡ insert xs (at - 1) one
inserted_lower xs one zero some within = absurd (omega arith)
inserted_lower xs one (suc at) some within =
    let long = length-insert xs (suc at) one within in
    simp unary_clauses (sym (swap_is (insert xs (suc at) one) at (suc at) 0 (omega arith) (omega arith)) ∙ set_lower xs one at (omega arith))

-- what a write of the whole list leaves
pub inserted_whole : (xs ys zs : List ℕ) (one gap : ℕ) → gap ≤ length xs → ys ≡ xs ++ one ∷ [] → zs ≡ insert xs gap one → refill (length ys) ys zs ≡ insert xs gap one
inserted_whole xs ys zs one gap within appended put =
    let same : length zs ≡ length ys = omega (arith, ap length appended, ap length put, length-append xs (one ∷ []), length-insert xs gap one within) in
    ap (λ rest. take (length ys) (zs ++ rest)) (drop_all (length zs) ys (omega (arith, same)))
    ∙ ap (take (length ys)) (append-nil zs) ∙ take_all (length ys) zs (omega (arith, same)) ∙ put

-- ---- a number that sinks to its place

raised : (xs : List ℕ) (one at : ℕ) → at < length xs → set (set (insert xs (suc at) one) (suc at) (get_or xs at 0)) at one ≡ insert xs at one
raised [] one at l = absurd (omega arith)
raised (x ∷ xs) one zero l = refl
raised (x ∷ xs) one (suc at) l = ap (λ ys. x ∷ ys) (raised xs one at (omega arith))

module _ (xs : List ℕ) (one place : ℕ) (up : IsStrictlyIncreasing xs) (found : IsInsertionPlace xs one place) (ones : List ℕ) (at sinking high low : ℕ) (within : at < length xs) (room : suc at < length ones) (highest : high ≡ max (get_or ones at 0) sinking) (lowest : low ≡ min (get_or ones at 0) one) (least : sinking ≤ one) where
  sinking-is : (zs : List ℕ) → set ones (suc at) sinking ≡ zs → sinking ≡ get_or zs (suc at) 0
  sinking-is zs is = sym (get_or-set_same ones (suc at) sinking 0 room) ∙ ap (λ ys. get_or ys (suc at) 0) is

  before-is : (zs : List ℕ) → set ones (suc at) sinking ≡ zs → get_or ones at 0 ≡ get_or zs at 0
  before-is zs is = sym (get_or-set_other ones (suc at) at sinking 0 (λ same. omega (arith, same))) ∙ ap (λ ys. get_or ys at 0) is

  -- it goes past the one before it, which isn't below it
  sunk-above : place ≤ at → set ones (suc at) sinking ≡ insert xs (suc at) one → set (set ones (suc at) high) at low ≡ insert xs at one
  sunk-above past is =
      let zs = insert xs (suc at) one in
      let sinks : sinking ≡ one = sinking-is zs is ∙ get_or-insert_at xs (suc at) one 0 (omega arith) in
      let before : get_or ones at 0 ≡ get_or xs at 0 = before-is zs is ∙ get_or-insert_below xs (suc at) one 0 at (omega arith) (omega arith) in
      let less : sinking ≤ get_or ones at 0 = omega (arith, sinks, before, found.behind at past within) in
      let up_one : high ≡ get_or xs at 0 = omega (arith, highest, less, before) in
      let down_one : low ≡ one = omega (arith, lowest, less, sinks) in
      let written : set ones (suc at) high ≡ set zs (suc at) high = sym (set-set ones (suc at) sinking high) ∙ ap (λ ys. set ys (suc at) high) is in
      let last = raised xs one at within in
      cc

  -- it stays behind the one before it, and that one goes on
  sunk-below : at < place → set ones (suc at) sinking ≡ insert xs place one → set (set ones (suc at) high) at low ≡ insert xs place one
  sunk-below short is =
      let zs = insert xs place one in
      let sinks = sinking-is zs is in
      let before = before-is zs is in
      let here : get_or zs at 0 ≡ get_or xs at 0 = get_or-insert_below xs place one 0 at short found.within in
      let less : get_or ones at 0 < sinking =
      elim (cases_lt (suc at) place) [
        | inl below ↦
            let next : get_or xs (at + 1) 0 ≡ get_or xs (suc at) 0 = ap (λ n. get_or xs n 0) {y = suc at} (omega arith) in
            omega (arith, sinks, before, here, next, get_or-insert_below xs place one 0 (suc at) below found.within, up at (omega (arith, found.within)))
        | inr reached ↦
            let there : get_or zs (suc at) 0 ≡ get_or zs place 0 = ap (λ n. get_or zs n 0) {y = place} (omega arith) in
            omega (arith, sinks, before, here, there, get_or-insert_at xs place one 0 found.within, found.before at short)
      ] in
      let up_one : high ≡ sinking = omega (arith, highest, less) in
      let down_one : low ≡ get_or zs at 0 = omega (arith, lowest, less, before) in
      let kept = set-get_or zs at 0 in
      cc

  pub inserted-step : (far near : ℕ) → far ≡ max (suc at) place → near ≡ max at place → set ones (suc at) sinking ≡ insert xs far one → set (set ones (suc at) high) at low ≡ insert xs near one
  inserted-step far near farther nearer is =
      elim (cases_lt at place) [
        | inl short ↦ sunk-below short (is ∙ ap (λ n. insert xs n one) {y = place} (omega arith)) ∙ ap (λ n. insert xs n one) {y = near} (omega arith)
        | inr past ↦ sunk-above past (is ∙ ap (λ n. insert xs n one) {y = suc at} (omega arith)) ∙ ap (λ n. insert xs n one) {y = near} (omega arith)
      ]

-- ---- whether that number was listed before

-- a number stands at a place or behind it, and before the end
abbrev pub StandsFrom : List ℕ → ℕ → ℕ → Type 0
StandsFrom ones at one = (k : ℕ) × (at ≤ k) × (k + 1 < length ones) × (get_or ones k 0 ≡ one)

-- one more place was looked at
pub stands-before : (ones : List ℕ) (at one before : ℕ) (stands : Bool) → 0 < at → at < length ones → before ≡ get_or ones (at - 1) 0 → ((stands ≡ true) ↔ StandsFrom ones at one) → ((stands || before == one) ≡ true) ↔ StandsFrom ones (at - 1) one
stands-before ones at one before true some within is told = (λ _. let found = told.0 refl in (found.0, omega (arith, found.1), found.2, found.3), λ _. refl)
stands-before ones at one before false some within is told = (
  λ yes. elim (eqb_tells before one) [ inl e ↦ (at - 1, omega arith, omega arith, sym is ∙ e.1) | inr e ↦ absurd (false≢true (sym e.0 ∙ yes)) ],
  λ found. elim (eqb_tells before one) [
    | inl e ↦ e.0
    | inr e ↦ elim (cases_lt found.0 at) [
      | inl here ↦ absurd (e.1 (is ∙ ap (λ n. get_or ones n 0) {x = at - 1} {y = found.0} (omega (arith, here, found.1)) ∙ found.3))
      | inr past ↦ absurd (false≢true (told.1 (found.0, past, found.2, found.3)))
    ]
  ],
)

-- all of them were looked at
pub stands-anywhere : (ones xs : List ℕ) (one at : ℕ) → ones ≡ xs ++ one ∷ [] → at ≡ 0 → StandsFrom ones at (get_or ones (length ones - 1) 0) ↔ Contains xs one
stands-anywhere ones xs one at is start =
    let long : length ones ≡ length xs + 1 = ap length is ∙ length-append xs (one ∷ []) in
    let last : get_or ones (length ones - 1) 0 ≡ one = ap (λ (ys : List ℕ). get_or ys (length ys - 1) 0) is ∙ last-more xs one in
    let same : (k : ℕ) → k < length xs → get_or ones k 0 ≡ get_or xs k one = λ k l. ap (λ (ys : List ℕ). get_or ys k 0) is ∙ get_or_append_left xs (one ∷ []) 0 k l ∙ get_or_default xs k 0 one l in (
      λ found. let l : found.0 < length xs = omega (arith, found.2, long) in (found.0, l, sym (same found.0 l) ∙ found.3 ∙ last),
      λ found. (found.0, omega (arith, start), omega (arith, found.1, long), same found.0 found.1 ∙ found.2 ∙ sym last),
    )
