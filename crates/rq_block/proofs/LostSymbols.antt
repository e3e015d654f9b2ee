-- The source symbols of a block that didn't come, one after another.
use Rattle.std.proofs.Common.{◌≡◌, ℕ, ◌+◌, ◌<◌, Bool, true, false, cond, eqb, List, Option, Some, None, refl, sym, ap, ◌∙◌, inl, inr, arith}
use Rattle.std.specs.Prelude.{is_some, unwrap_or}
use Rattle.std.specs.Option.{ForSome}
use Rattle.std.proofs.lemmas.Bool.{cases_lt, eq-eqb}
use Rattle.rq_standard.specs.Received.{or_later}
use Rattle.rq_block.specs.Payloads.{AddsUnlessThere}
use Rattle.rq_block.proofs.Payloads.{all-more}

-- each of these is the sum for its id
abbrev pub AreSums : (ℕ → List ℕ) → (ℕ → Option (List ℕ)) → Type 0
AreSums sum f = (k : ℕ) → ForSome (f k) (λ x. x ≡ sum k)

-- with these besides what was received the first symbols are there
abbrev pub AreThere : (ℕ → Option (List ℕ)) → (ℕ → Option (List ℕ)) → (ℕ → List ℕ) → ℕ → Type 0
AreThere received f sum n = (k : ℕ) → k < n → or_later (received k) (f k) ≡ Some (unwrap_or (received k) (sum k))

still : (r o : Option (List ℕ)) (b : Bool) (x s : List ℕ) → or_later r o ≡ Some (unwrap_or r s) → or_later r (or_later o (cond b (Some x) None)) ≡ Some (unwrap_or r s)
still (Some y) o b x s h = h
still None (Some y) b x s h = h
still None None b x s h = absurd (cc h)

added : (r o : Option (List ℕ)) (b : Bool) (x s : List ℕ) → ForSome o (λ z. z ≡ s) → x ≡ s → b ≡ true → or_later r (or_later o (cond b (Some x) None)) ≡ Some (unwrap_or r s)
added (Some y) o b x s sums is t = refl
added None (Some z) b x s sums is t = ap (λ l. Some l) (sums z refl)
added None None true x s sums is t = ap (λ l. Some l) is
added None None false x s sums is t = absurd (cc t)

came : (r o : Option (List ℕ)) (s : List ℕ) → is_some r ≡ true → or_later r o ≡ Some (unwrap_or r s)
came (Some y) o s h = refl
came None o s h = absurd (cc h)

module _ (received f : ℕ → Option (List ℕ)) (sum : ℕ → List ℕ) (e : ℕ) where
  -- the next one was received
  pub there-came : is_some (received e) ≡ true → AreThere received f sum e → AreThere received f sum (e + 1)
  there-came has before k below =
      elim (cases_lt k e) [
        | inl first ↦ before k first
        | inr last ↦
            let here : e ≡ k = omega arith in
            came (received k) (f k) (sum k) (ap (λ n. is_some (received n)) (sym here) ∙ has)
      ]

  module _ (g : ℕ → Option (List ℕ)) (x : List ℕ) (all : AreSums sum f) (is : x ≡ sum e) (grown : AddsUnlessThere e x f g) where
    -- the next one is put in
    pub sums-more : AreSums sum g
    sums-more = all-more (λ k y. y ≡ sum k) f g e x all is grown

    pub there-more : AreThere received f sum e → AreThere received g sum (e + 1)
    there-more before k below =
        ap (or_later (received k)) (grown k)
        ∙ elim (cases_lt k e) [
          | inl first ↦ still (received k) (f k) (eqb e k) x (sum k) (before k first)
          | inr last ↦
              let here : e ≡ k = omega arith in
              added (received k) (f k) (eqb e k) x (sum k) (all k) (is ∙ ap sum here) (eq-eqb e k here)
        ]
