-- Numbers that follow one another.
use Rattle.std.proofs.Common.{◌≡◌, ℕ, ◌+◌, ◌-◌, ◌≤◌, List, [], ◌∷◌, ◌++◌, sym, ap, ◌∙◌, arith, append-nil}
use Rattle.std.specs.List.{flat_map, range_with_len}
use Rattle.std.proofs.lemmas.List.{map-id}
use Rattle.std.proofs.lemmas.List.Concat.{flat_map-append}
use Rattle.std.proofs.lemmas.List.FromFn.{map-range_with_len_more}

pub range-push : (a n j : ℕ) → a + n ≡ j → range_with_len a (n + 1) ≡ range_with_len a n ++ j ∷ []
range-push a n j is = sym (map-id (range_with_len a (n + 1))) ∙ map-range_with_len_more (λ x. x) a n j is ∙ ap (λ xs. xs ++ j ∷ []) (map-id (range_with_len a n))

-- pieces made from 0, 1, 2 .., and one more
pub flat_map-push : {X : Type 0} (f : ℕ → List X) (k : ℕ) → flat_map f (range_with_len 0 (k + 1)) ≡ flat_map f (range_with_len 0 k) ++ f k
flat_map-push f k = ap (flat_map f) (range-push 0 k k (omega arith)) ∙ flat_map-append f (range_with_len 0 k) (k ∷ []) ∙ ap (λ l. flat_map f (range_with_len 0 k) ++ l) (append-nil (f k))

-- one number more of those from a on
pub range-more : (a j : ℕ) (xs new : List ℕ) → a ≤ j → xs ≡ range_with_len a (j - a) → new ≡ xs ++ j ∷ [] → new ≡ range_with_len a (j + 1 - a)
range-more a j xs new from is grown =
    let count : j + 1 - a ≡ j - a + 1 = omega arith in
    grown ∙ ap (λ ys. ys ++ j ∷ []) is ∙ sym (range-push a (j - a) j (omega arith)) ∙ ap (range_with_len a) (sym count)
