-- A list of which the first i elements are made by f from them and those of another.
use Rattle.std.proofs.Common.{◌≡◌, ℕ, zero, suc, ◌+◌, ◌<◌, ◌≤◌, List, [], ◌∷◌, length, get_or, set, take, map, refl, sym, ap, ◌∙◌, arith, add-one}
use lib.Lanes.{zip2, chunk, put_chunk}
use Rattle.rq_bytes.specs.Lanes.{zip_upto}

pub length-zip_upto : {A B : Type 0} (f : A → B → A) (i : ℕ) (xs : List A) (ys : List B) → length (zip_upto f i xs ys) ≡ length xs
length-zip_upto f zero xs ys = refl
length-zip_upto f (suc i) [] ys = refl
length-zip_upto f (suc i) (x ∷ xs) [] = refl
length-zip_upto f (suc i) (x ∷ xs) (y ∷ ys) = ap suc (length-zip_upto f i xs ys)

pub zip_upto_all : {A B : Type 0} (f : A → B → A) (i : ℕ) (xs : List A) (ys : List B) → length xs ≤ length ys → i ≡ length xs → zip_upto f i xs ys ≡ zip2 f xs ys
zip_upto_all f zero [] ys e all = refl
zip_upto_all f zero (x ∷ xs) ys e all = absurd (omega arith)
zip_upto_all f (suc i) [] ys e all = refl
zip_upto_all f (suc i) (x ∷ xs) [] e all = absurd (omega arith)
zip_upto_all f (suc i) (x ∷ xs) (y ∷ ys) e all = ap (λ zs. f x y ∷ zs) (zip_upto_all f i xs ys (omega arith) (omega arith))

-- one more element
pub zip_upto_more : {A B : Type 0} (f : A → B → A) (i : ℕ) (xs : List A) (ys : List B) (c : A) (d : B) → i < length xs → i < length ys
    → set (zip_upto f i xs ys) i (f (get_or (zip_upto f i xs ys) i c) (get_or ys i d)) ≡ zip_upto f (suc i) xs ys
zip_upto_more f zero [] ys c d hx hy = absurd (omega arith)
zip_upto_more f zero (x ∷ xs) [] c d hx hy = absurd (omega arith)
zip_upto_more f zero (x ∷ xs) (y ∷ ys) c d hx hy = refl
zip_upto_more f (suc i) [] ys c d hx hy = absurd (omega arith)
zip_upto_more f (suc i) (x ∷ xs) [] c d hx hy = absurd (omega arith)
zip_upto_more f (suc i) (x ∷ xs) (y ∷ ys) c d hx hy = ap (λ zs. f x y ∷ zs) (zip_upto_more f i xs ys c d (omega arith) (omega arith))

-- n more elements, from the start
zip_upto_front : {A B : Type 0} (f : A → B → A) (n : ℕ) (xs : List A) (ys : List B) → n ≤ length xs → n ≤ length ys
    → put_chunk 0 xs (zip2 f (take n xs) (take n ys)) ≡ zip_upto f n xs ys
zip_upto_front f zero [] ys hx hy = refl
zip_upto_front f zero (x ∷ xs) ys hx hy = refl
zip_upto_front f (suc n) [] ys hx hy = absurd (omega arith)
zip_upto_front f (suc n) (x ∷ xs) [] hx hy = absurd (omega arith)
zip_upto_front f (suc n) (x ∷ xs) (y ∷ ys) hx hy = ap (λ zs. f x y ∷ zs) (zip_upto_front f n xs ys (omega arith) (omega arith))

-- n more elements, by a store of lanes
pub zip_upto_chunk : {A B : Type 0} (f : A → B → A) (n i j : ℕ) (xs : List A) (ys : List B) → i + n ≤ length xs → i + n ≤ length ys → j ≡ i + n
    → put_chunk i (zip_upto f i xs ys) (zip2 f (chunk i n (zip_upto f i xs ys)) (chunk i n ys)) ≡ zip_upto f j xs ys
zip_upto_chunk f n zero j xs ys hx hy e = zip_upto_front f n xs ys (omega arith) (omega arith) ∙ ap (λ k. zip_upto f k xs ys) (let same : n ≡ j = omega arith in same)
zip_upto_chunk f n (suc i) zero xs ys hx hy e = absurd (omega arith)
zip_upto_chunk f n (suc i) (suc j) [] ys hx hy e = absurd (omega arith)
zip_upto_chunk f n (suc i) (suc j) (x ∷ xs) [] hx hy e = absurd (omega arith)
zip_upto_chunk f n (suc i) (suc j) (x ∷ xs) (y ∷ ys) hx hy e =
    ap (λ zs. f x y ∷ zs) (zip_upto_chunk f n i j xs ys (omega arith) (omega arith) (omega arith))

-- a function of one of the two
pub zip2-map_right : {A B C D : Type 0} (f : A → B → D) (g : C → B) (xs : List A) (ys : List C) → zip2 f xs (map g ys) ≡ zip2 (λ x y. f x (g y)) xs ys
zip2-map_right f g [] ys = refl
zip2-map_right f g (x ∷ xs) [] = refl
zip2-map_right f g (x ∷ xs) (y ∷ ys) = ap (λ zs. f x (g y) ∷ zs) (zip2-map_right f g xs ys)

pub zip2-map_left : {A B C D : Type 0} (f : A → B → D) (g : C → A) (xs : List C) (ys : List B) → zip2 f (map g xs) ys ≡ zip2 (λ x y. f (g x) y) xs ys
zip2-map_left f g [] ys = refl
zip2-map_left f g (x ∷ xs) [] = refl
zip2-map_left f g (x ∷ xs) (y ∷ ys) = ap (λ zs. f (g x) y ∷ zs) (zip2-map_left f g xs ys)

-- ---- a list `now`, of which a loop has made the first i elements

pub step_one : {A B : Type 0} (f : A → B → A) (i : ℕ) (now xs : List A) (ys : List B) (c : A) (d : B)
    → now ≡ zip_upto f i xs ys → i < length xs → length xs ≤ length ys
    → set now i (f (get_or now i c) (get_or ys i d)) ≡ zip_upto f (i + 1) xs ys
step_one f i now xs ys c d is lt long =
    ap (λ zs. set zs i (f (get_or zs i c) (get_or ys i d))) is
    ∙ zip_upto_more f i xs ys c d lt (omega arith)
    ∙ ap (λ k. zip_upto f k xs ys) (sym (add-one i))

pub step_store : {A B : Type 0} (f : A → B → A) (n i j : ℕ) (now xs : List A) (ys : List B)
    → now ≡ zip_upto f i xs ys → i + n ≤ length xs → length xs ≤ length ys → j ≡ i + n
    → put_chunk i now (zip2 f (chunk i n now) (chunk i n ys)) ≡ zip_upto f j xs ys
step_store f n i j now xs ys is le long e =
    ap (λ zs. put_chunk i zs (zip2 f (chunk i n zs) (chunk i n ys))) is
    ∙ zip_upto_chunk f n i j xs ys le (omega arith) e

pub at_end : {A B : Type 0} (f : A → B → A) (i : ℕ) (now xs : List A) (ys : List B)
    → now ≡ zip_upto f i xs ys → length xs ≤ length ys → i ≡ length xs → now ≡ zip2 f xs ys
at_end f i now xs ys is long all = is ∙ zip_upto_all f i xs ys long all

-- a list's own elements, each made by g
pub zip2-left : {A B : Type 0} (g : A → A) (xs : List A) (ys : List B) → length ys ≡ length xs → zip2 (λ x _. g x) xs ys ≡ map g xs
zip2-left g [] ys e = refl
zip2-left g (x ∷ xs) [] e = absurd (omega arith)
zip2-left g (x ∷ xs) (y ∷ ys) e = ap (λ zs. g x ∷ zs) (zip2-left g xs ys (omega arith))
