-- A list that is changed at one place, or from one place on.
use Rattle.std.proofs.Common.{◌≡◌, ℕ, suc, ◌+◌, ◌-◌, ◌<◌, ◌≤◌, List, [], ◌∷◌, ◌++◌, length, map, set, get_or, take, drop, sym, ap, ◌∙◌, subst, arith, append_assoc}
use Rattle.std.specs.List.{All, swap}
use Rattle.std.proofs.Math.Seq.{drop-cons}
use Rattle.std.proofs.lemmas.List.{set-append_right, length-take-le, length-append, length-drop, length-map, take-append-le, drop-append-le, map-append, get_or-append_right, get_or-drop, take_more}
use Rattle.std.proofs.lemmas.List.Elements.{All-set}
use Rattle.std.proofs.lemmas.List.Edits.{swap_is}

pub All-swap : {X : Type 0} (P : X → Type 0) (xs : List X) (i j : ℕ) (d : X) → i < length xs → j < length xs → All P xs → All P (swap xs i j)
All-swap P xs i j d lt lt' all =
    let x = get_or xs i d in
    let y = get_or xs j d in
    subst (All P) (swap_is xs i j d lt lt') (All-set P (set xs i y) j x (all i d lt) (All-set P xs i y (all j d lt') all))

-- the first n elements of a list, those from `start` on mapped, and then the others as they were
abbrev pub mapped_until : {X : Type 0} → (X → X) → ℕ → ℕ → List X → List X
mapped_until f start n xs = (take start (take n xs) ++ map f (drop start (take n xs))) ++ drop n xs

module _ {X : Type 0} (f : X → X) (start n : ℕ) (xs : List X) (from : start ≤ n) (below : n < length xs) where
  begun : List X
  begun = take start (take n xs) ++ map f (drop start (take n xs))

  length-begun : length begun ≡ n
  unfolding begun
  length-begun =
      let whole = length-take-le n xs (omega arith) in
      length-append (take start (take n xs)) (map f (drop start (take n xs)))
      ∙ omega (arith, length-take-le start (take n xs) (omega arith), length-map (drop start (take n xs)) f, length-drop start (take n xs))

  -- the element at n is still the old one
  pub mapped_until-next : (d : X) → get_or (mapped_until f start n xs) n d ≡ get_or xs n d
  unfolding begun
  mapped_until-next d =
      let first : n - n ≡ 0 = omega arith in
      let same : n + 0 ≡ n = omega arith in
      get_or-append_right begun (drop n xs) n n d length-begun (omega arith)
      ∙ ap (λ k. get_or (drop n xs) k d) first
      ∙ get_or-drop n xs 0 d
      ∙ ap (λ k. get_or xs k d) same

  pub mapped_until-more : (d : X) → set (mapped_until f start n xs) n (f (get_or xs n d)) ≡ mapped_until f start (n + 1) xs
  unfolding begun
  mapped_until-more d =
      let x = get_or xs n d in
      let first : n - n ≡ 0 = omega arith in
      let next : suc n ≡ n + 1 = omega arith in
      let whole = length-take-le n xs (omega arith) in
      let more = take_more xs n d below in
      let long : start ≤ length (take n xs) = omega arith in
      set-append_right begun (drop n xs) n n (f x) length-begun (omega arith)
      ∙ ap (λ k. begun ++ set (drop n xs) k (f x)) first
      ∙ ap (λ l. begun ++ set l 0 (f x)) (drop-cons xs n d below)
      ∙ ap (λ k. begun ++ f x ∷ drop k xs) next
      ∙ sym (append_assoc begun (f x ∷ []) (drop (n + 1) xs))
      ∙ ap (λ l. l ++ drop (n + 1) xs) (
      append_assoc (take start (take n xs)) (map f (drop start (take n xs))) (f x ∷ [])
      ∙ ap (λ l. take start (take n xs) ++ l) (sym (map-append f (drop start (take n xs)) (x ∷ [])))
      ∙ ap (λ l. take start (take n xs) ++ map f l) (sym (drop-append-le start (take n xs) (x ∷ []) long) ∙ ap (drop start) (sym more))
      ∙ ap (λ l. l ++ map f (drop start (take (n + 1) xs))) (sym (take-append-le start (take n xs) (x ∷ []) long) ∙ ap (take start) (sym more)))
