-- The law of lanes: a loop over whole vectors and the rest does an operation to each octet at its place.
use Rattle.std.proofs.Common.{◌≡◌, ℕ, zero, suc, ◌+◌, ◌<◌, ◌≤◌, List, [], ◌∷◌, length, get_or, set, take, drop, map, refl, sym, ap, ◌∙◌, arith}
use Rattle.std.proofs.lemmas.List.FromFn.{length-range_with_len, get_or-range_with_len, length-map-range_with_len, get_or-map-range_with_len}
use Rattle.std.proofs.lemmas.List.{ext_get_or, take_all}
use Rattle.std.proofs.lemmas.Simd.{length-zip2, length-chunk, pick_l-range_with_len}
use Rattle.std.specs.List.{range_with_len}
use Rattle.std.specs.Int.Bits.{bit_xor}
use lib.Lanes.{zip2, chunk, put_chunk}
use Rattle.rq_bytes.specs.Lanes.{made_upto}
use Rattle.rq_bytes.proofs.ZipUpto.{length-zip_upto, zip_upto_all, step_one, step_store, zip2-map_right, zip2-left}

chunk-range : (i n k a : ℕ) → i + n ≤ k → chunk i n (range_with_len a k) ≡ range_with_len (a + i) n
chunk-range zero zero k a fits = refl
chunk-range zero (suc n) zero a fits = absurd (omega arith)
chunk-range zero (suc n) (suc k) a fits = ap (λ l. a ∷ l) (chunk-range zero n k (a + 1) (omega arith) ∙ ap (λ b. range_with_len b n) (let e : a + 1 + 0 ≡ a + 1 = omega arith in e)) ∙ ap (λ b. range_with_len b (suc n)) (let e : a ≡ a + 0 = omega arith in e)
chunk-range (suc i) n zero a fits = absurd (omega arith)
chunk-range (suc i) n (suc k) a fits = chunk-range i n k (a + 1) (omega arith) ∙ ap (λ b. range_with_len b n) (let e : a + 1 + i ≡ a + suc i = omega arith in e)

-- what stands behind a vector that was written
drop-put_chunk : (i j : ℕ) (xs ys : List ℕ) → i + length ys ≤ j → drop j (put_chunk i xs ys) ≡ drop j xs
drop-put_chunk i j [] ys past = refl
drop-put_chunk zero j (x ∷ xs) [] past = refl
drop-put_chunk zero zero (x ∷ xs) (y ∷ ys) past = absurd (omega arith)
drop-put_chunk zero (suc j) (x ∷ xs) (y ∷ ys) past = drop-put_chunk zero j xs ys (omega arith)
drop-put_chunk (suc i) zero (x ∷ xs) ys past = absurd (omega arith)
drop-put_chunk (suc i) (suc j) (x ∷ xs) ys past = drop-put_chunk i j xs ys (omega arith)

module _ (f : ℕ → ℕ → ℕ) (now xs : List ℕ) (i : ℕ) (so_far : now ≡ made_upto f i xs) where
  pub same_length : length now ≡ length xs
  same_length = ap length so_far ∙ length-zip_upto f i xs (range_with_len 0 (length xs))

  pub one_made : (j y : ℕ) → y ≡ f (get_or now i 0) i → i < length xs → j ≡ i + 1 → set now i y ≡ made_upto f j xs
  one_made j y is lt e =
      let places = length-range_with_len 0 (length xs) in
      let place : get_or (range_with_len 0 (length xs)) i 0 ≡ i = get_or-range_with_len 0 (length xs) i 0 lt ∙ (let e : 0 + i ≡ i = omega arith in e) in
      ap (set now i) (is ∙ ap (f (get_or now i 0)) (sym place))
      ∙ step_one f i now xs (range_with_len 0 (length xs)) 0 0 so_far lt (omega (arith, places))
      ∙ ap (λ k. made_upto f k xs) (sym e)

  pub lanes_made : (n j : ℕ) (made : List ℕ) → made ≡ zip2 f (chunk i n now) (range_with_len i (length (chunk i n now))) → i + n ≤ length xs → j ≡ i + n → put_chunk i now made ≡ made_upto f j xs
  lanes_made n j made is le e =
      let places = length-range_with_len 0 (length xs) in
      let long = length-chunk i n now (omega (arith, same_length)) in
      let there : chunk i n (range_with_len 0 (length xs)) ≡ range_with_len i n = chunk-range i n (length xs) 0 (omega arith) ∙ ap (λ a. range_with_len a n) (let e : 0 + i ≡ i = omega arith in e) in
      ap (put_chunk i now) (is ∙ ap (λ k. zip2 f (chunk i n now) (range_with_len i k)) long ∙ ap (zip2 f (chunk i n now)) (sym there))
      ∙ step_store f n i j now xs (range_with_len 0 (length xs)) so_far (omega arith) (omega (arith, places)) e

  pub all_made : i ≡ length xs → now ≡ zip2 f xs (range_with_len 0 (length xs))
  all_made all = so_far ∙ zip_upto_all f i xs (range_with_len 0 (length xs)) (let places = length-range_with_len 0 (length xs) in omega (arith, places)) all

-- two vectors, both made before the first is written
pub two_made : (f : ℕ → ℕ → ℕ) (now xs : List ℕ) (i n m j : ℕ) (first second : List ℕ) → now ≡ made_upto f i xs
    → first ≡ zip2 f (chunk i n now) (range_with_len i (length (chunk i n now))) → m ≡ i + n
    → second ≡ zip2 f (chunk m n now) (range_with_len m (length (chunk m n now))) → m + n ≤ length xs → j ≡ m + n
    → put_chunk m (put_chunk i now first) second ≡ made_upto f j xs
two_made f now xs i n m j first second so_far is next is_second le e =
    let places = length-range_with_len i (length (chunk i n now)) in
    let long : length first ≡ n = ap length is ∙ length-zip2 f (chunk i n now) (range_with_len i (length (chunk i n now))) (sym places) ∙ length-chunk i n now (omega (arith, same_length f now xs i so_far)) in
    let behind : chunk m n (put_chunk i now first) ≡ chunk m n now = ap (take n) (drop-put_chunk i m now first (omega arith)) in
    let one = lanes_made f now xs i so_far n m first is (omega arith) next in
    lanes_made f (put_chunk i now first) xs m one n j second (is_second ∙ ap (λ l. zip2 f l (range_with_len m (length l))) (sym behind)) le e

-- what is made of n octets and of those of another row at their places
pub beside : (f : ℕ → ℕ → ℕ) (xs ys : List ℕ) (i n : ℕ) → length xs ≡ n → i + n ≤ length ys
    → zip2 f xs (chunk i n ys) ≡ zip2 (λ x k. f x (get_or ys k 0)) xs (range_with_len i (length xs))
beside f xs ys i n long fits =
    ap (zip2 f xs) (sym (pick_l-range_with_len 0 ys i n fits))
    ∙ zip2-map_right f (λ k. get_or ys k 0) xs (range_with_len i n)
    ∙ ap (λ m. zip2 (λ x k. f x (get_or ys k 0)) xs (range_with_len i m)) (sym long)

-- and of all those of a row of the same length
pub beside_whole : (f : ℕ → ℕ → ℕ) (xs ys : List ℕ) → length ys ≡ length xs → zip2 (λ x k. f x (get_or ys k 0)) xs (range_with_len 0 (length xs)) ≡ zip2 f xs ys
beside_whole f xs ys same = sym (beside f xs ys 0 (length xs) refl (omega arith)) ∙ ap (zip2 f xs) (take_all (length xs) ys (omega arith))

-- what g makes of another row's octets, added to a row's
pub made_added : (g : ℕ → ℕ) (xs ys : List ℕ) → length ys ≡ length xs
    → zip2 (λ x k. bit_xor x (g (get_or ys k 0))) xs (range_with_len 0 (length xs)) ≡ zip2 bit_xor xs (map g ys)
made_added g xs ys same = beside_whole (λ x y. bit_xor x (g y)) xs ys same ∙ sym (zip2-map_right bit_xor g xs ys)

-- what is made of a row's octets alone
pub alone : (g : ℕ → ℕ) (xs : List ℕ) (i : ℕ) → zip2 (λ x k. g x) xs (range_with_len i (length xs)) ≡ map g xs
alone g xs i = zip2-left g xs (range_with_len i (length xs)) (length-range_with_len i (length xs))

-- what one function makes of the first places, and another one of the places from b on
pub ranges_alike : (f g : ℕ → ℕ) (b n : ℕ) → ((i : ℕ) → i < n → f i ≡ g (b + i)) → map f (range_with_len 0 n) ≡ map g (range_with_len b n)
ranges_alike f g b n same =
    let long = length-map-range_with_len f 0 n in
    ext_get_or 0 (map f (range_with_len 0 n)) (map g (range_with_len b n)) (long ∙ sym (length-map-range_with_len g b n)) (λ i under.
    let lt : i < n = omega (arith, under, long) in
    get_or-map-range_with_len f 0 n i i 0 lt (omega arith) ∙ same i lt ∙ sym (get_or-map-range_with_len g b n i (b + i) 0 lt (omega arith)))
