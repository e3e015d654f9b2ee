-- Places no two of which are one: sums over them, columns spread over them, and exchanges.
use Rattle.std.proofs.Common.{◌≡◌, ◌≢◌, ℕ, zero, suc, ◌<◌, sym, ap, ◌∙◌, refl, arith, inl, inr}
use Rattle.std.proofs.lemmas.Bool.{cases_eq, eq-eqb, ne_eqb}
use Rattle.rq_algebra.specs.Field.{Field}
use Rattle.rq_algebra.specs.Arrangements.{ArePlaces, exchange}
use Rattle.rq_algebra.specs.Systems.{sum_below}
use Rattle.rq_algebra.specs.SystemLaws.{ExchangeIsAnOrder}
use Rattle.rq_algebra.proofs.Sums.{sum_same, sum_zero, sum_add, sum_one, add_zero}
use Rattle.rq_algebra.specs.Changes.{with_at}
use Rattle.rq_algebra.proofs.ChangeLaws.{with_at_same, with_at_other}

-- all places but the last
fewer_places : (n bound : ℕ) (places : ℕ → ℕ) → ArePlaces (suc n) bound places → ArePlaces n bound places
fewer_places n bound places are = record { below = λ i l. are.below i (omega arith); apart = λ i j l m e. are.apart i j (omega arith) (omega arith) e }

-- and one more
pub more_places : (n bound : ℕ) (places : ℕ → ℕ) (p : ℕ) → ArePlaces n bound places → p < bound → ((q : ℕ) → q < n → places q ≢ p) → ArePlaces (suc n) bound (with_at places n p)
more_places n bound places p are in_bound free = record {
  below = λ i l. elim (cases_eq i n) [ inl e ↦ rw (with_at_same places n p i e) in_bound | inr d ↦ rw (with_at_other places n p i d) (are.below i (omega arith)) ];
  apart = λ i j l m same. elim (cases_eq i n) [
    | inl e ↦ elim (cases_eq j n) [
      | inl f ↦ e ∙ sym f
      | inr f ↦ absurd (free j (omega arith) (sym (with_at_other places n p j f) ∙ sym same ∙ with_at_same places n p i e))
    ]
    | inr d ↦ elim (cases_eq j n) [
      | inl f ↦ absurd (free i (omega arith) (sym (with_at_other places n p i d) ∙ same ∙ with_at_same places n p j f))
      | inr f ↦ are.apart i j (omega arith) (omega arith) (sym (with_at_other places n p i d) ∙ same ∙ with_at_other places n p j f)
    ]
  ];
}

module _ (F : Field) where
  -- one term taken out of a sum
  pub sum_but : (n : ℕ) (f : ℕ → ℕ) (p : ℕ) → p < n → sum_below F n f ≡ F.add (sum_below F n (with_at f p 0)) (f p)
  sum_but n f p l =
      let only : ℕ → ℕ = with_at (λ _. 0) p (f p) in
      sum_same F n f (λ k. F.add (with_at f p 0 k) (only k)) (λ k m. elim (cases_eq k p) [
        | inl e ↦ cc (with_at_same f p 0 k e, with_at_same {X = ℕ} (λ _. 0) p (f p) k e, F.zero_add (f p), ap f e)
        | inr d ↦ cc (with_at_other f p 0 k d, with_at_other {X = ℕ} (λ _. 0) p (f p) k d, add_zero F (f k))
      ])
      ∙ sum_add F n (with_at f p 0) only
      ∙ ap (λ (y : ℕ). F.add (sum_below F n (with_at f p 0)) y) (sum_one F n only p l (λ k m d. with_at_other {X = ℕ} (λ _. 0) p (f p) k d) ∙ with_at_same {X = ℕ} (λ _. 0) p (f p) p refl)

  -- a sum whose other terms are 0 is the sum over the places
  pub sum_places : (n width : ℕ) (f : ℕ → ℕ) (places : ℕ → ℕ) → ArePlaces n width places → ((k : ℕ) → k < width → ((j : ℕ) → j < n → places j ≢ k) → f k ≡ 0) → sum_below F width f ≡ sum_below F n (λ j. f (places j))
  unfolding sum_below
  sum_places zero width f places are zeros = sum_zero F width f (λ k l. zeros k l (λ j m. absurd (omega arith)))
  sum_places (suc n) width f places are zeros =
      let p : ℕ = places n in
      sum_but width f p (are.below n (omega arith))
      ∙ ap (λ (s : ℕ). F.add s (f p)) (
      sum_places n width (with_at f p 0) places (fewer_places n width places are)
      (λ k l free. elim (cases_eq k p) [
        | inl e ↦ with_at_same f p 0 k e
        | inr d ↦ with_at_other f p 0 k d ∙ zeros k l (λ j m e. elim (cases_eq j n) [ inl q ↦ d (sym e ∙ ap places q) | inr q ↦ free j (omega arith) e ])
      ])
      ∙ sum_same F n (λ j. with_at f p 0 (places j)) (λ j. f (places j)) (λ j l. with_at_other f p 0 (places j) (λ e. let z : j ≡ n = are.apart j n (omega arith) (omega arith) e in omega (arith, z))))

-- the column that has y's entries at the places, and 0 elsewhere
pub spread : ℕ → (ℕ → ℕ) → (ℕ → ℕ) → ℕ → ℕ
spread zero places y k = 0
spread (suc n) places y k = with_at (spread n places y) (places n) (y n) k

pub spread_at : (n width : ℕ) (places y : ℕ → ℕ) → ArePlaces n width places → (j : ℕ) → j < n → spread n places y (places j) ≡ y j
unfolding spread
spread_at zero width places y are j l = absurd (omega arith)
spread_at (suc n) width places y are j l = elim (cases_eq j n) [
  | inl e ↦ with_at_same (spread n places y) (places n) (y n) (places j) (ap places e) ∙ ap y (sym e)
  | inr d ↦ with_at_other (spread n places y) (places n) (y n) (places j) (λ e. d (are.apart j n (omega arith) (omega arith) e))
      ∙ spread_at n width places y (fewer_places n width places are) j (omega arith)
]

pub spread_off : (n : ℕ) (places y : ℕ → ℕ) (k : ℕ) → ((j : ℕ) → j < n → places j ≢ k) → spread n places y k ≡ 0
unfolding spread
spread_off zero places y k free = refl
spread_off (suc n) places y k free = with_at_other (spread n places y) (places n) (y n) k (λ e. free n (omega arith) (sym e)) ∙ spread_off n places y k (λ j l. free j (omega arith))

pub exchange_left : (p q i : ℕ) → i ≡ p → exchange p q i ≡ q
unfolding exchange
exchange_left p q i e = rw (eq-eqb i p e)

pub exchange_right : (p q i : ℕ) → i ≡ q → exchange p q i ≡ p
unfolding exchange
exchange_right p q i e = elim (cases_eq i p) [ inl f ↦ rw (eq-eqb i p f) (sym e ∙ f) | inr d ↦ rw (ne_eqb i p d, eq-eqb i q e) ]

pub exchange_other : (p q i : ℕ) → i ≢ p → i ≢ q → exchange p q i ≡ i
unfolding exchange
exchange_other p q i d e = rw (ne_eqb i p d, ne_eqb i q e)

pub exchange_below : (p q n : ℕ) → p < n → q < n → (i : ℕ) → i < n → exchange p q i < n
exchange_below p q n l m i o = elim (cases_eq i p) [
  | inl e ↦ rw (exchange_left p q i e) m
  | inr d ↦ elim (cases_eq i q) [ inl e ↦ rw (exchange_right p q i e) l | inr f ↦ rw (exchange_other p q i d f) o ]
]

pub exchange_twice : (p q i : ℕ) → exchange p q (exchange p q i) ≡ i
exchange_twice p q i = elim (cases_eq i p) [
  | inl e ↦ rw (exchange_left p q i e) (exchange_right p q q refl ∙ sym e)
  | inr d ↦ elim (cases_eq i q) [ inl e ↦ rw (exchange_right p q i e) (exchange_left p q p refl ∙ sym e) | inr f ↦ rw (exchange_other p q i d f) (exchange_other p q i d f) ]
]

-- an exchange of places, and places that are exchanged
pub exchange_are : ExchangeIsAnOrder
exchange_are p q n l m = record {
  below = exchange_below p q n l m;
  apart = λ i j o u e. sym (exchange_twice p q i) ∙ ap (exchange p q) e ∙ exchange_twice p q j;
}

pub same_places : (n bound : ℕ) (f g : ℕ → ℕ) → ((i : ℕ) → i < n → g i ≡ f i) → ArePlaces n bound f → ArePlaces n bound g
same_places n bound f g same are = record {
  below = λ i l. rw (same i l) (are.below i l);
  apart = λ i j l m e. are.apart i j l m (sym (same i l) ∙ e ∙ same j m);
}

-- places of places
pub places_of_places : (n m bound : ℕ) (f to : ℕ → ℕ) → ArePlaces m bound f → ArePlaces n m to → ArePlaces n bound (λ i. f (to i))
places_of_places n m bound f to are are_to = record {
  below = λ i l. are.below (to i) (are_to.below i l);
  apart = λ i j l o e. are_to.apart i j l o (are.apart (to i) (to j) (are_to.below i l) (are_to.below j o) e);
}
