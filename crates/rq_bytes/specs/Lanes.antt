-- What an operation makes of the octets of a row.
use Rattle.std.specs.Prelude.{ℕ, zero, suc, List, [], ◌∷◌, length}
use Rattle.std.specs.List.{range_with_len}

-- a list of which the first elements are made by f from them and those of another
abbrev pub zip_upto : {A B : Type 0} → (A → B → A) → ℕ → List A → List B → List A
zip_upto f zero xs ys = xs
zip_upto f (suc i) [] ys = []
zip_upto f (suc i) (x ∷ xs) [] = x ∷ xs
zip_upto f (suc i) (x ∷ xs) (y ∷ ys) = f x y ∷ zip_upto f i xs ys

-- a row of which the first octets are made by f from them and their places
abbrev pub made_upto : (ℕ → ℕ → ℕ) → ℕ → List ℕ → List ℕ
made_upto f i xs = zip_upto f i xs (range_with_len 0 (length xs))
