-- Pieces of a block, one after another.
use Rattle.std.proofs.Common.{◌≡◌, ℕ, ◌+◌, ◌*◌, ◌<◌, ◌≤◌, List, length, take, drop, get_or, map, arith, sym, ◌∙◌, subst, length-drop}
use Rattle.std.specs.List.{range_with_len}
use Rattle.std.proofs.Math.Nat.{mul-le-mul_right}
use Rattle.std.proofs.lemmas.List.{length-take-le, get_or-take, get_or-drop, ext_get_or}
use Rattle.std.proofs.lemmas.List.FromFn.{length-map-range_with_len, get_or-map-range_with_len}
use Rattle.rq_standard.specs.Configuration.{Configuration}
use Rattle.rq_standard.specs.Cutting.{block_symbols, block_bytes}

-- the n bytes from a place on, as a list made from a function of the place
pub map-range_is_take : (xs : List ℕ) (f : ℕ → ℕ) (a n : ℕ) → a + n ≤ length xs → ((i : ℕ) → i < n → f i ≡ get_or xs (a + i) 0) → map f (range_with_len 0 n) ≡ take n (drop a xs)
map-range_is_take xs f a n h each =
    let room : n ≤ length (drop a xs) = omega (arith, length-drop a xs) in
    ext_get_or 0 (map f (range_with_len 0 n)) (take n (drop a xs)) (length-map-range_with_len f 0 n ∙ sym (length-take-le n (drop a xs) room))
    (λ i below. let lt : i < n = subst (λ m. i < m) (length-map-range_with_len f 0 n) below in
    get_or-map-range_with_len f 0 n i i 0 lt (omega arith) ∙ each i lt ∙ sym (get_or-take n (drop a xs) i 0 lt ∙ get_or-drop a xs i 0))

-- a piece ends where all n pieces end, or before
pub piece_within : (p n size : ℕ) → p < n → p * size + size ≤ n * size
piece_within p n size lt = let more : p + 1 ≤ n = omega arith in omega (arith, mul-le-mul_right size more)

-- a block has its length
pub length-block_bytes : (c : Configuration) (object : List ℕ) (b : ℕ) → length (block_bytes c object b) ≡ block_symbols c b * c.symbol_size
unfolding block_bytes
length-block_bytes c object b = length-map-range_with_len _ 0 (block_symbols c b * c.symbol_size)
