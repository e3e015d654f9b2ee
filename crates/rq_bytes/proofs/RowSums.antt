-- Sums of several rows, vector by vector.
use Rattle.std.proofs.Common.{◌≡◌, ℕ, ◌+◌, ◌<◌, ◌≤◌, List, [], ◌∷◌, ◌++◌, length, get_or, set, take, drop, map, fold, All, refl, sym, ap, ◌∙◌, subst, arith}
use Rattle.std.proofs.Math.Seq.{drop-append-add}
use Rattle.std.proofs.lemmas.List.{drop-append-le, map-append, map_more, take_all, take_more_set, get_or-map, length-map, map-id, take-append-le, length-drop}
use Rattle.std.proofs.lemmas.List.Elements.{All-head, All-tail, All-map}
use Rattle.std.proofs.lemmas.List.Folds.{fold-map}
use Rattle.std.proofs.lemmas.List.FromFn.{length-range_with_len}
use Rattle.std.proofs.lemmas.List.Sums.{fold_more}
use Rattle.std.proofs.lemmas.Simd.{length-zip2, pick_l-range_with_len}
use Rattle.std.specs.List.{range_with_len}
use Rattle.std.specs.Int.Bits.{bit_xor}
use lib.Lanes.{zip2, chunk}
use Rattle.rq_standard.specs.Rows.{row_sum}
use Rattle.rq_bytes.specs.Ranges.{range_of}
use Rattle.rq_bytes.proofs.LaneFacts.{beside}
use Rattle.rq_bytes.proofs.ZipUpto.{zip2-left, zip2-map_right}

zip2-alike : (f g : ℕ → ℕ → ℕ) → ((x k : ℕ) → f x k ≡ g x k) → (xs ks : List ℕ) → zip2 f xs ks ≡ zip2 g xs ks
zip2-alike f g same [] ks = refl
zip2-alike f g same (x ∷ xs) [] = refl
zip2-alike f g same (x ∷ xs) (k ∷ ks) = ap (λ y. y ∷ zip2 f xs ks) (same x k) ∙ ap (λ zs. g x k ∷ zs) (zip2-alike f g same xs ks)

-- what two operations make, one after the other
zip2-twice : (f g : ℕ → ℕ → ℕ) (xs ks : List ℕ) → zip2 g (zip2 f xs ks) ks ≡ zip2 (λ x k. g (f x k) k) xs ks
zip2-twice f g [] ks = refl
zip2-twice f g (x ∷ xs) [] = refl
zip2-twice f g (x ∷ xs) (k ∷ ks) = ap (λ zs. g (f x k) k ∷ zs) (zip2-twice f g xs ks)

zip2-take : (f : ℕ → ℕ → ℕ) (xs ys : List ℕ) → zip2 f xs (take (length xs) ys) ≡ zip2 f xs ys
zip2-take f [] ys = refl
zip2-take f (x ∷ xs) [] = refl
zip2-take f (x ∷ xs) (y ∷ ys) = ap (λ zs. f x y ∷ zs) (zip2-take f xs ys)

-- several rows, added to a row
pub rows_at : {R : Type 0} (of : R → List ℕ) (rows : List R) (xs : List ℕ) (n : ℕ) → length xs ≡ n → All (λ r. n ≤ length (of r)) rows
    → fold (λ sum r. row_sum sum (of r)) xs rows ≡ zip2 (λ x k. fold (λ s r. bit_xor s (get_or (of r) k 0)) x rows) xs (range_with_len 0 n)
rows_at of [] xs n long all = sym (zip2-left (λ x. x) xs (range_with_len 0 n) (length-range_with_len 0 n ∙ sym long) ∙ map-id xs)
rows_at of (r ∷ rows) xs n long all =
    let one : ℕ → ℕ → ℕ = λ x k. bit_xor x (get_or (of r) k 0) in
    let fits : n ≤ length (of r) = All-head (λ s. n ≤ length (of s)) r rows all in
    let first : row_sum xs (of r) ≡ zip2 one xs (range_with_len 0 n) =
    sym (ap (λ m. zip2 one xs (range_with_len 0 m)) (sym long) ∙ sym (beside bit_xor xs (of r) 0 (length xs) refl (omega (arith, fits, long))) ∙ zip2-take bit_xor xs (of r)) in
    let still : length (zip2 one xs (range_with_len 0 n)) ≡ n = length-zip2 one xs (range_with_len 0 n) (long ∙ sym (length-range_with_len 0 n)) ∙ long in
    ap (λ zs. fold (λ sum s. row_sum sum (of s)) zs rows) first
    ∙ rows_at of rows (zip2 one xs (range_with_len 0 n)) n still (All-tail (λ s. n ≤ length (of s)) r rows all)
    ∙ zip2-twice one (λ x k. fold (λ s q. bit_xor s (get_or (of q) k 0)) x rows) xs (range_with_len 0 n)

-- one more of several rows, added to a vector
pub one_more_row : {R : Type 0} (of : R → List ℕ) (rows : List R) (i : ℕ) (d : R) (xs sum : List ℕ) (at n : ℕ) → length xs ≡ n → i < length rows
    → sum ≡ zip2 (λ x k. fold (λ s r. bit_xor s (get_or (of r) k 0)) x (take i rows)) xs (range_with_len at (length xs)) → at + n ≤ length (of (get_or rows i d))
    → zip2 bit_xor sum (chunk at n (of (get_or rows i d))) ≡ zip2 (λ x k. fold (λ s r. bit_xor s (get_or (of r) k 0)) x (take (i + 1) rows)) xs (range_with_len at (length xs))
one_more_row of rows i d xs sum at n long lt so_far fits =
    let ks = range_with_len at (length xs) in
    let made : ℕ → ℕ → ℕ = λ x k. fold (λ s r. bit_xor s (get_or (of r) k 0)) x (take i rows) in
    let row = of (get_or rows i d) in
    rw (so_far, ← pick_l-range_with_len 0 row at n fits, ← long, zip2-map_right bit_xor (λ k. get_or row k 0) (zip2 made xs ks) ks)
    (zip2-twice made (λ x k. bit_xor x (get_or row k 0)) xs ks
    ∙ zip2-alike (λ x k. bit_xor (made x k) (get_or row k 0)) (λ x k. fold (λ s r. bit_xor s (get_or (of r) k 0)) x (take (i + 1) rows))
    (λ x k. sym (fold_more (λ s r. bit_xor s (get_or (of r) k 0)) x rows i d lt)) xs ks)

-- ---- rows that are those of some places

pub all_unmap : {X Y : Type 0} (P : Y → Type 0) (f : X → Y) (xs : List X) → All P (map f xs) → All (λ x. P (f x)) xs
all_unmap P f xs all = λ k d lt. subst P (get_or-map f xs k d (f d) lt) (all k (f d) (omega (arith, length-map xs f)))

module _ {R P : Type 0} (of : R → List ℕ) (f : P → List ℕ) (rows : List R) (places : List P) (i n : ℕ) (so_far : map of (take i rows) ≡ map f (take i places)) (end : i ≡ n) (count : length places ≡ n) where
  same : map of (take n rows) ≡ map f places
  same = ap (λ k. map of (take k rows)) (sym end) ∙ so_far ∙ ap (map f) (take_all i places (omega (arith, end, count)))

  pub rows_long : (m : ℕ) → All (λ p. m ≤ length (f p)) places → All (λ r. m ≤ length (of r)) (take n rows)
  rows_long m all = let long = λ (row : List ℕ). m ≤ length row in all_unmap long of (take n rows) (subst (All long) (sym same) (All-map long f places all))

  pub rows_summed : (x : List ℕ) → fold (λ sum r. row_sum sum (of r)) x (take n rows) ≡ fold (λ sum p. row_sum sum (f p)) x places
  rows_summed x = sym (fold-map row_sum of x (take n rows)) ∙ ap (fold row_sum x) same ∙ fold-map row_sum f x places

-- one more of them
pub rows_more : {R P : Type 0} (of : R → List ℕ) (f : P → List ℕ) (rows : List R) (places : List P) (i : ℕ) (row : R) (default : P) → map of (take i rows) ≡ map f (take i places)
    → of row ≡ f (get_or places i default) → i < length rows → i < length places → map of (take (i + 1) (set rows i row)) ≡ map f (take (i + 1) places)
rows_more of f rows places i row default so_far is inside lt =
    rw (take_more_set rows i row inside, map-append of (take i rows) (row ∷ []), so_far, is, map_more f places i default lt) refl

-- ranges of a list before a row and behind it
pub range_before : (front rest : List ℕ) (start n : ℕ) → start + n ≤ length front → range_of (front ++ rest) start n ≡ range_of front start n
range_before front rest start n fits =
    ap (take n) (drop-append-le start front rest (omega arith)) ∙ take-append-le n (drop start front) rest (omega (arith, length-drop start front))

pub range_behind : (front row back : List ℕ) (start k n : ℕ) → start ≡ length front + (length row + k) → range_of (front ++ (row ++ back)) start n ≡ range_of back k n
range_behind front row back start k n e =
    ap (λ i. range_of (front ++ (row ++ back)) i n) e ∙ ap (take n) (drop-append-add front (row ++ back) (length row + k) ∙ drop-append-add row back k)
