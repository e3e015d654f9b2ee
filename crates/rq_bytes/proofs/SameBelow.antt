-- Functions that are alike at all numbers below some number, as a test of each shows.
use Rattle.std.proofs.Common.{◌≡◌, ℕ, ◌<◌, true, eqb}
use Rattle.std.proofs.lemmas.Bool.{agree_below, agree_below_at, eqb-true}

pub same_below : (f g : ℕ → ℕ) (n : ℕ) → agree_below (λ k. eqb (f k) (g k)) (λ _. true) n ≡ true → (i : ℕ) → i < n → f i ≡ g i
same_below f g n all i lt = eqb-true _ _ (agree_below_at (λ k. eqb (f k) (g k)) (λ _. true) n i all lt)
