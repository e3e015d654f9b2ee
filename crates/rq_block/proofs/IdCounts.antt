-- How many ids a map of payloads has, and how many are missing once others were received.
use Rattle.std.proofs.Common.{◌≡◌, ◌≢◌, ◌⊎◌, inl, inr, ℕ, zero, suc, ◌+◌, ◌-◌, ◌<◌, ◌≤◌, Bool, true, false, ◌||◌, cond, eqb, List, [], ◌∷◌, length, All, Contains, Some, Vec, Global, refl, sym, ap, ◌∙◌, arith, vec_items}
use Rattle.std.specs.Prelude.{is_some, option_map}
use Rattle.std.specs.BTreeMap.{is_at, IsOrdered}
use Rattle.std.specs.List.{AllByRecursion, IsDistinct}
use Rattle.std.specs.Map.{keys_of, lookup}
use Rattle.std.specs.Ordering.{nat_cmp, eq_by_cmp}
use Rattle.std.proofs.lemmas.Bool.{cases_eq, eq-eqb, eqb-true, ne_eqb, or_cases, or_left, or_right}
use Rattle.std.proofs.lemmas.List.Elements.{All-head, All-tail}
use Rattle.std.proofs.lemmas.Map.Keys.{IsDistinct-from_sorted, IsDistinct-head, IsDistinct-tail}
use Rattle.std.proofs.lemmas.Map.Made.{Contains-tail}
use Rattle.rq_block.specs.Payloads.{Payloads, has_payload, missing_count}
use Rattle.rq_block.proofs.Listing.{entries_below}
use Rattle.rq_block.proofs.MissingCounts.{missing_count-all, missing_count-one}
use Rattle.rq_block.proofs.Payloads.{is_eq-nat_cmp}

-- ---- others that were received

one_at_most : (b : Bool) → cond b 0 1 ≤ 1
one_at_most true = omega arith
one_at_most false = omega arith

no_fewer : (a b : Bool) → (b ≡ true → a ≡ true) → cond a 0 1 ≤ cond b 0 1
no_fewer true b there = omega arith
no_fewer false false there = omega arith
no_fewer false true there = absurd (cc (there refl))

-- where each id that is there now was there before, no fewer are missing
missing_count-within : (n : ℕ) (f g : ℕ → Bool) → ((e : ℕ) → e < n → g e ≡ true → f e ≡ true) → missing_count n f ≤ missing_count n g
unfolding missing_count
missing_count-within zero f g within = omega arith
missing_count-within (suc n) f g within = omega (arith, missing_count-within n f g (λ e below. within e (omega arith)), no_fewer (f n) (g n) (within n (omega arith)))

-- one id more makes one fewer at most
missing_count-one_more : (n x : ℕ) (f g : ℕ → Bool) → ((e : ℕ) → g e ≡ true → (f e ≡ true) ⊎ (e ≡ x)) → missing_count n f ≤ missing_count n g + 1
unfolding missing_count
missing_count-one_more zero x f g within = omega arith
missing_count-one_more (suc n) x f g within = elim (cases_eq n x) [
  | inl is ↦ omega (arith, missing_count-within n f g (λ e below came. elim (within e came) [ inl was ↦ was | inr same ↦ absurd (omega (arith, same, is, below)) ]), one_at_most (f n))
  | inr apart ↦ omega (arith, missing_count-one_more n x f g within, no_fewer (f n) (g n) (λ came. elim (within n came) [ inl was ↦ was | inr same ↦ absurd (apart same) ]))
]

-- with n ids more at most n fewer are missing
pub missing_count-more : (n : ℕ) (new : List ℕ) (f g : ℕ → Bool) → ((e : ℕ) → g e ≡ true → (f e ≡ true) ⊎ Contains new e) → missing_count n f ≤ missing_count n g + length new
missing_count-more n [] f g within = omega (arith, missing_count-within n f g (λ e below came. elim (within e came) [ inl was ↦ was | inr at ↦ absurd (omega (arith, at.1)) ]))
missing_count-more n (x ∷ xs) f g within =
    let with_x : ℕ → Bool = λ e. f e || eqb e x in
    let one = missing_count-one_more n x f with_x (λ e came. elim (or_cases (f e) (eqb e x) came) [ inl was ↦ inl was | inr same ↦ inr (eqb-true e x same) ]) in
    let rest = missing_count-more n xs with_x g (λ e came. elim (within e came) [
      | inl was ↦ inl (or_left (f e) (eqb e x) was)
      | inr at ↦ elim (cases_eq e x) [
        | inl same ↦ inl (or_right (f e) (eqb e x) (eq-eqb e x same))
        | inr apart ↦ inr (Contains-tail x xs e (λ is. apart (sym is)) at)
      ]
    ]) in
    omega (arith, one, rest)

-- of further ids none has to be there
pub missing_count-further : (k n : ℕ) (f : ℕ → Bool) → k ≤ n → missing_count n f ≤ missing_count k f + (n - k)
unfolding missing_count
missing_count-further k zero f fits = omega arith
missing_count-further k (suc n) f fits = elim (cases_eq k (suc n)) [
  | inl is ↦ omega (arith, ap (λ m. missing_count m f) is)
  | inr apart ↦ omega (arith, missing_count-further k n f (omega arith), one_at_most (f n))
]

-- ---- the ids of a map

abbrev Entries : Type 0
Entries = List (ℕ × Vec ℕ Global)

abbrev has_entry : Entries → ℕ → Bool
has_entry es e = is_some (option_map vec_items (lookup (is_at (nat_cmp e)) es))

entry_here : (k : ℕ) (v : Vec ℕ Global) (es : Entries) → has_entry ((k, v) ∷ es) k ≡ true
entry_here k v es = ap (λ t. is_some (option_map vec_items (cond t (Some v) (lookup (is_at (nat_cmp k)) es)))) (is_eq-nat_cmp k k ∙ eq-eqb k k refl)

entry_elsewhere : (k e : ℕ) (v : Vec ℕ Global) (es : Entries) → e ≢ k → has_entry es e ≡ has_entry ((k, v) ∷ es) e
entry_elsewhere k e v es apart = sym (ap (λ t. is_some (option_map vec_items (cond t (Some v) (lookup (is_at (nat_cmp e)) es)))) (is_eq-nat_cmp e k ∙ ne_eqb e k apart))

entry_absent : (k : ℕ) (es : Entries) → AllByRecursion (λ y. eq_by_cmp nat_cmp k y ≡ false) (keys_of es) → has_entry es k ≡ false
entry_absent k [] apart = refl
entry_absent k (e ∷ es) apart = ap (λ t. is_some (option_map vec_items (cond t (Some e.1) (lookup (is_at (nat_cmp k)) es)))) apart.0 ∙ entry_absent k es apart.1

entries_counted : (n : ℕ) (es : Entries) → IsDistinct (eq_by_cmp nat_cmp) (keys_of es) → All (λ e. e.0 < n) es → missing_count n (has_entry es) + length es ≡ n
entries_counted n [] distinct few = omega (arith, missing_count-all n (has_entry []) (λ e. refl))
entries_counted n (e ∷ es) distinct few =
    let absent = entry_absent e.0 es (IsDistinct-head (eq_by_cmp nat_cmp) e.0 (keys_of es) distinct) in
    let one = missing_count-one n e.0 (has_entry es) (has_entry (e ∷ es)) (All-head (λ x. x.0 < n) e es few) absent (entry_here e.0 e.1 es) (λ q apart. entry_elsewhere e.0 q e.1 es apart) in
    omega (arith, one, entries_counted n es (IsDistinct-tail (eq_by_cmp nat_cmp) e.0 (keys_of es) distinct) (All-tail (λ x. x.0 < n) e es few))

-- of n ids, all but those of the entries are missing
pub ids_counted : (m : Payloads) (n : ℕ) → IsOrdered nat_cmp m → ((e : ℕ) → has_payload m e ≡ true → e < n) → missing_count n (has_payload m) + length m.entries ≡ n
ids_counted m n ordered few = entries_counted n m.entries (IsDistinct-from_sorted nat_cmp (keys_of m.entries) ordered) (entries_below m n ordered few)
