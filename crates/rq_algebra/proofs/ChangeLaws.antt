-- Functions of a place, changed at one place, and places that are looked for.
use Rattle.std.proofs.Common.{◌≡◌, ◌≢◌, ℕ, zero, suc, ◌<◌, ◌⊎◌, cond, eqb, sym, ◌∙◌, subst, refl, arith, inl, inr}
use Rattle.std.proofs.lemmas.Bool.{cases_eq, eq-eqb, ne_eqb}
use Rattle.rq_algebra.specs.Changes.{with_at}
use Rattle.rq_algebra.proofs.Choices.{if_same, if_apart, if_either}

-- a number below n of the one kind, or all are of the other
search_below : (P Q : ℕ → Type 0) → ((k : ℕ) → P k ⊎ Q k) → (n : ℕ) → ((p : ℕ) × (p < n) × P p) ⊎ ((k : ℕ) → k < n → Q k)
search_below P Q test zero = inr (λ k l. absurd (omega arith))
search_below P Q test (suc n) = elim (test n) [
  | inl p ↦ inl (n, (omega arith), p)
  | inr q ↦ elim (search_below P Q test n) [
    | inl r ↦ inl (r.0, (omega (arith, r.1)), r.2)
    | inr below ↦ inr (λ k l. elim (cases_eq k n) [ inl e ↦ subst Q (sym e) q | inr d ↦ below k (omega arith) ])
  ]
]

-- a place below n where f is i, or there is none
pub find_place : (n : ℕ) (f : ℕ → ℕ) (i : ℕ) → ((p : ℕ) × (p < n) × (f p ≡ i)) ⊎ ((k : ℕ) → k < n → f k ≢ i)
find_place n f i = search_below (λ k. f k ≡ i) (λ k. f k ≢ i) (λ k. cases_eq (f k) i) n

-- a place below n where f is not 0, or there is none
pub find_nonzero : (n : ℕ) (f : ℕ → ℕ) → ((p : ℕ) × (p < n) × (f p ≢ 0)) ⊎ ((i : ℕ) → i < n → f i ≡ 0)
find_nonzero n f = search_below (λ k. f k ≢ 0) (λ k. f k ≡ 0) (λ k. elim (cases_eq (f k) 0) [ inl e ↦ inr e | inr d ↦ inl d ]) n

pub with_at_same : {X : Type 0} (f : ℕ → X) (n : ℕ) (x : X) (k : ℕ) → k ≡ n → with_at f n x k ≡ x
unfolding with_at
with_at_same f n x k e = rw (eq-eqb k n e)

pub with_at_other : {X : Type 0} (f : ℕ → X) (n : ℕ) (x : X) (k : ℕ) → k ≢ n → with_at f n x k ≡ f k
unfolding with_at
with_at_other f n x k d = rw (ne_eqb k n d)

-- which row stands at place i once row p is dropped and the last row, h, put in its place
pub without : ℕ → ℕ → ℕ → ℕ
without p h i = cond (eqb i p) h i

pub without_below : (p h i : ℕ) → i < h → without p h i < suc h
unfolding without
without_below p h i l = if_either (λ j. j < suc h) i p h i (λ e. omega arith) (λ d. omega arith)

-- every other row stands somewhere
pub without_onto : (p h i : ℕ) → p < suc h → i < suc h → i ≢ p → (j : ℕ) × (j < h) × (without p h j ≡ i)
unfolding without
without_onto p h i lp l d = elim (cases_eq i h) [
  | inl e ↦ (p, (omega arith), if_same p p h p refl ∙ sym e)
  | inr f ↦ (i, (omega arith), if_apart i p h i d)
]
