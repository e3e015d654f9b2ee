-- Lists whose elements a function takes to 0, 1, 2 .., or to what another function makes of these.
use Rattle.std.proofs.Common.{◌≡◌, ℕ, ◌+◌, ◌<◌, List, [], ◌∷◌, ◌++◌, length, get_or, map, sym, ap, ◌∙◌, inl, inr, arith}
use Rattle.std.specs.List.{range_with_len}
use Rattle.std.proofs.lemmas.List.{length-map, get_or-map, map-id, map_push}
use Rattle.std.proofs.lemmas.List.FromFn.{length-map-range_with_len, get_or-map-range_with_len, map-range_with_len_more}
use Rattle.std.proofs.lemmas.Option.{slice_get_cases}
use Rattle.std.proofs.lemmas.Simd.{map-map}

-- where two lists are made into the same elements, what is made of these is the same
pub mapped_through : {W X Y Z : Type 0} (h : Y → Z) (f : X → Y) (g : W → Y) (xs : List X) (ys : List W) → map f xs ≡ map g ys → map (λ x. h (f x)) xs ≡ map (λ y. h (g y)) ys
mapped_through h f g xs ys are = sym (map-map h f xs) ∙ ap (map h) are ∙ map-map h g ys

-- one element more
pub mapped_more : {X Y : Type 0} (f : X → Y) (g : ℕ → Y) (n : ℕ) (xs ys : List X) (x : X) → map f xs ≡ map g (range_with_len 0 n) → f x ≡ g n → ys ≡ xs ++ x ∷ [] → map f ys ≡ map g (range_with_len 0 (n + 1))
mapped_more f g n xs ys x so here grown = ap (map f) grown ∙ map_push f xs x ∙ ap (λ l. l ++ f x ∷ []) so ∙ ap (λ y. map g (range_with_len 0 n) ++ y ∷ []) here ∙ sym (map-range_with_len_more g 0 n n (omega arith))

module _ {X Y : Type 0} (f : X → Y) (g : ℕ → Y) (n : ℕ) (xs : List X) (are : map f xs ≡ map g (range_with_len 0 n)) where
  pub length-mapped : length xs ≡ n
  length-mapped = sym (length-map xs f) ∙ ap length are ∙ length-map-range_with_len g 0 n

  pub mapped_at : (i : ℕ) (x : X) → i < n → x ≡ get_or xs i x → f x ≡ g i
  mapped_at i x below is = ap f is ∙ sym (get_or-map f xs i x (f x) (omega (arith, length-mapped))) ∙ ap (λ l. get_or l i (f x)) are ∙ get_or-map-range_with_len g 0 n i i (f x) below (omega arith)

  -- where the number of what is made of i is i
  pub new_numbers : (number : Y → ℕ) → ((i : ℕ) → number (g i) ≡ i) → map (λ x. number (f x)) xs ≡ range_with_len 0 n
  new_numbers number are_own = mapped_through number f g xs (range_with_len 0 n) are ∙ (λ j. map (λ i. are_own i j) (range_with_len 0 n)) ∙ map-id (range_with_len 0 n)

-- elements in the order of their numbers
module _ {X : Type 0} (number : X → ℕ) (n : ℕ) (xs : List X) (numbered : map number xs ≡ range_with_len 0 n) where
  pub length-numbered : length xs ≡ n
  length-numbered = length-mapped number (λ i. i) n xs (numbered ∙ sym (map-id (range_with_len 0 n)))

  pub numbered_at : (i : ℕ) (x : X) → i < n → x ≡ get_or xs i x → number x ≡ i
  numbered_at = mapped_at number (λ i. i) n xs (numbered ∙ sym (map-id (range_with_len 0 n)))

-- there is an element at a place
pub some_at : {X : Type 0} (xs : List X) (i : ℕ) → i < length xs → (x : X) × (x ≡ get_or xs i x)
some_at xs i below = elim (slice_get_cases xs i).1 [ inl found ↦ (found.0, sym found.3) | inr past ↦ absurd (omega (arith, past.0)) ]

-- the element that a loop over a list, as it was handed out, is at
pub record IsTurn {X : Type 0} (xs : List X) (i : ℕ) (x : X) : Type 0 where
  pub below : i < length xs
  pub is : x ≡ get_or xs i x

pub turn_of : {X : Type 0} (xs lent : List X) (i : ℕ) (x : X) → lent ≡ xs → i < length lent → x ≡ get_or lent i x → IsTurn xs i x
turn_of xs lent i x same below is = record { below = omega (arith, ap length same, below); is = is ∙ ap (λ l. get_or l i x) same }
