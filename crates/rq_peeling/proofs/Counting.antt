-- Counts and sums of any list of numbers.
use Rattle.std.proofs.Common.{Bool, ◌≡◌, ◌≢◌, ℕ, ◌+◌, ◌-◌, ◌*◌, ◌<◌, ◌≤◌, List, [], All, ◌∷◌, Contains, length, take, replicate, get_or, refl, sym, ap, subst, ◌∙◌, arith, inl, inr, cond, true, false, ◌==◌, zero, suc, add-zero, zero-add}
use Rattle.std.specs.List.{concat, count_by, sum, sum_by}
use Rattle.std.proofs.lemmas.Bool.{eq-eqb, ne_eqb}
use Rattle.std.proofs.lemmas.Bool.Decides.{eqb_tells}
use Rattle.std.proofs.lemmas.List.{length-append, length-take-le, get_or_default, get_or-take}
use Rattle.std.proofs.lemmas.List.Elements.{All-append}
use Rattle.std.proofs.lemmas.List.Folds.{sum_by-replicate}
use Rattle.std.proofs.lemmas.List.Sums.{count_by_more_yes, count_by_more_no, sum_by-append, sum_by-cons, sum_by_more, sum_by-take-le}
use Rattle.rq_algebra.specs.Systems.{at}

-- ---- how often a list has a number

-- the next number of a list is counted
pub count_next : (xs : List ℕ) (t k : ℕ) → t < length xs → at xs t ≡ k → count_by (λ x. x == k) (take (t + 1) xs) ≡ count_by (λ x. x == k) (take t xs) + 1
count_next xs t k l e = count_by_more_yes (λ x. x == k) xs t 0 l (eq-eqb (at xs t) k e)

pub count_skipped : (xs : List ℕ) (t k : ℕ) → t < length xs → at xs t ≢ k → count_by (λ x. x == k) (take (t + 1) xs) ≡ count_by (λ x. x == k) (take t xs)
count_skipped xs t k l d = count_by_more_no (λ x. x == k) xs t 0 l (ne_eqb (at xs t) k d)

-- a number of a list is counted
pub count_contains : (xs : List ℕ) (x : ℕ) → Contains xs x → 1 ≤ count_by (λ y. y == x) xs
count_contains xs x c =
    let next = count_next xs c.0 x c.1 (get_or_default xs c.0 0 x c.1 ∙ c.2) in
    omega (arith, next, sum_by-take-le (λ y. cond (y == x) 1 0) xs (c.0 + 1))

-- a number that stands at two places of a list is counted twice
pub twice_counted : (xs : List ℕ) (q t : ℕ) → q < t → t < length xs → at xs q ≡ at xs t → count_by (λ x. x == at xs t) xs ≤ 1 → ⊥
twice_counted xs q t early l e once =
    let k = at xs t in
    let here = count_next xs t k l refl in
    let before = count_next (take t xs) q k (omega (arith, length-take-le t xs (omega arith))) (get_or-take t xs q 0 early ∙ e) in
    let some = sum_by-take-le (λ x. cond (x == k) 1 0) (take t xs) (q + 1) in
    let all = sum_by-take-le (λ x. cond (x == k) 1 0) xs (t + 1) in
    omega (arith, here, before, some, all, once)

-- a number that is repeated
pub count-replicate : (n row other : ℕ) → count_by (λ r. r == other) (replicate n row) ≡ cond (row == other) n 0
count-replicate n row other = elim (eqb_tells row other) [
  | inl same ↦ sum_by-replicate (λ (r : ℕ). cond (r == other) 1 0) n row ∙ ap (λ b. n * cond b 1 0) same.0 ∙ omega arith ∙ ap (λ b. cond b n 0) (sym same.0)
  | inr apart ↦ sum_by-replicate (λ (r : ℕ). cond (r == other) 1 0) n row ∙ ap (λ b. n * cond b 1 0) apart.0 ∙ omega arith ∙ ap (λ b. cond b n 0) (sym apart.0)
]

-- ---- elements that pass a test

-- what a list contains is contained behind one more element
contains_behind : (x : ℕ) (xs : List ℕ) (k : ℕ) → Contains xs k → Contains (x ∷ xs) k
contains_behind x xs k is = (is.0 + 1, omega (arith, is.1), (let next : is.0 + 1 ≡ suc is.0 = omega arith in ap (λ (i : ℕ). get_or (x ∷ xs) i k) next ∙ is.2))

-- tests that agree on all elements count the same
pub count_same : (p q : ℕ → Bool) (xs : List ℕ) → ((k : ℕ) → Contains xs k → p k ≡ q k) → count_by p xs ≡ count_by q xs
count_same p q [] same = refl
count_same p q (x ∷ xs) same =
    sum_by-cons (λ k. cond (p k) 1 0) x xs
    ∙ ap (λ b. cond b 1 0 + count_by p xs) (same x (0, omega arith, refl))
    ∙ ap (λ (n : ℕ). cond (q x) 1 0 + n) (count_same p q xs (λ k is. same k (contains_behind x xs k is)))
    ∙ sym (sum_by-cons (λ k. cond (q k) 1 0) x xs)

pub count_nothing : (p : ℕ → Bool) (xs : List ℕ) → ((k : ℕ) → Contains xs k → p k ≡ false) → count_by p xs ≡ 0
count_nothing p xs none = count_same p (λ _. false) xs none ∙ nothing xs where
  nothing : (ys : List ℕ) → count_by (λ (_ : ℕ). false) ys ≡ 0
  nothing [] = refl
  nothing (y ∷ ys) = sum_by-cons (λ (_ : ℕ). 0) y ys ∙ zero-add (sum_by (λ (_ : ℕ). 0) ys) ∙ nothing ys

pub count_absent : (xs : List ℕ) (k : ℕ) → (Contains xs k → ⊥) → count_by (λ x. x == k) xs ≡ 0
count_absent xs k out = count_nothing (λ x. x == k) xs (λ j is. elim (eqb_tells j k) [ inl e ↦ absurd (out (subst (Contains xs) e.1 is)) | inr e ↦ e.0 ])

-- tests that agree but on one element, which the first passes and the second doesn't
pub count_split : (p q : ℕ → Bool) (c : ℕ) (xs : List ℕ) → ((k : ℕ) → Contains xs k → k ≢ c → p k ≡ q k) → p c ≡ true → q c ≡ false → count_by p xs ≡ count_by q xs + count_by (λ x. x == c) xs
count_split p q c [] same passes fails = refl
count_split p q c (x ∷ xs) same passes fails =
    let first = sum_by-cons (λ k. cond (p k) 1 0) x xs in
    let second = sum_by-cons (λ k. cond (q k) 1 0) x xs in
    let third = sum_by-cons (λ k. cond (k == c) 1 0) x xs in
    let rest = count_split p q c xs (λ k is. same k (contains_behind x xs k is)) passes fails in
    let here : ◌≡◌ {A = ℕ} (cond (p x) 1 0) (cond (q x) 1 0 + cond (x == c) 1 0) = elim (eqb_tells x c) [
      | inl e ↦
          ap (λ (k : ℕ). cond (p k) 1 0) e.1 ∙ ap (λ b. cond b 1 0) passes
          ∙ sym (ap (λ (k : ℕ). cond (q k) 1 0 + cond (x == c) 1 0) e.1 ∙ ap (λ b. cond b 1 0 + cond (x == c) 1 0) fails ∙ ap (λ b. 0 + cond b 1 0) e.0)
      | inr e ↦ ap (λ b. cond b 1 0) (same x (0, omega arith, refl) e.1) ∙ sym (add-zero (cond (q x) 1 0)) ∙ ap (λ b. cond (q x) 1 0 + cond b 1 0) (sym e.0)
    ] in
    omega (arith, first, second, third, rest, here)

-- ---- sums

-- the sum of the first numbers, and the next one
pub sum_next : (xs : List ℕ) (k : ℕ) → k < length xs → sum (take (k + 1) xs) ≡ sum (take k xs) + at xs k
sum_next xs k l = sum_by_more (λ x. x) xs k 0 l

pub sum_within : (xs : List ℕ) (k : ℕ) → sum (take k xs) ≤ sum xs
sum_within xs k = sum_by-take-le (λ x. x) xs k

-- more numbers have no less a sum
pub sum_rises : (xs : List ℕ) (a n : ℕ) → a + n ≤ length xs → sum (take a xs) ≤ sum (take (a + n) xs)
sum_rises xs a zero l = let same : a + 0 ≡ a = omega arith in rw same (omega arith)
sum_rises xs a (suc n) l =
    let back : a + n + 1 ≡ a + suc n = omega arith in
    let more = sum_next xs (a + n) (omega arith) in
    let before = sum_rises xs a n (omega arith) in
    rw (← back) (omega (arith, more, before))

pub sum_rises_to : (xs : List ℕ) (a b : ℕ) → a ≤ b → b ≤ length xs → sum (take a xs) ≤ sum (take b xs)
sum_rises_to xs a b le l =
    let back : a + (b - a) ≡ b = omega arith in
    rw back at (sum_rises xs a (b - a) (omega arith))

-- ---- lists that are joined

-- what is counted in all lists that are joined is counted in each
pub sum_by-concat : (f : ℕ → ℕ) (lists : List (List ℕ)) → sum_by f (concat lists) ≡ sum_by (sum_by f) lists
sum_by-concat f [] = refl
sum_by-concat f (list ∷ lists) =
    sum_by-append f list (concat lists)
    ∙ ap (λ n. sum_by f list + n) (sum_by-concat f lists)
    ∙ sym (sum_by-cons (sum_by f) list lists)

pub length-concat : (lists : List (List ℕ)) → length (concat lists) ≡ sum_by length lists
length-concat [] = refl
length-concat (list ∷ lists) = length-append list (concat lists) ∙ ap (λ n. length list + n) (length-concat lists) ∙ sym (sum_by-cons length list lists)

pub All-concat : (P : ℕ → Type 0) (lists : List (List ℕ)) → All (All P) lists → All P (concat lists)
All-concat P [] all = λ i d l. absurd (omega arith)
All-concat P (list ∷ lists) all = All-append P list (concat lists) (all 0 [] (omega arith)) (All-concat P lists (λ i d l. all (suc i) d (omega arith)))
