-- A list cut into pieces of one size.
use Rattle.std.proofs.Common.{◌≡◌, ℕ, zero, suc, ◌+◌, ◌-◌, ◌*◌, ◌<◌, ◌≤◌, ◌⊎◌, inl, inr, ⊎_elim, List, [], ◌∷◌, ◌++◌, length, take, drop, get_or, set, replicate, refl, sym, ap, ◌∙◌, arith}
use Rattle.std.proofs.lemmas.Bool.{cases_lt}
use Rattle.std.proofs.Math.Seq.{take-append_seam, drop-append_seam, drop-append-add, take-append-add}
use Rattle.std.proofs.lemmas.List.{take-take, drop-take, drop-drop, take-append-le, drop-append-le, length-append, take-append-drop}
use Rattle.std.proofs.lemmas.List.{take-replicate, drop-replicate, take_all, set_split, length-take-le, length-drop, append_assoc}
use Rattle.rq_standard.proofs.PlainCut.{piece_within}
use Rattle.rq_bytes.specs.Ranges.{range_of, with_range, cut, joined_pieces}

pub length-cut : {X : Type 0} (n s : ℕ) (xs : List X) → length (cut n s xs) ≡ n
length-cut zero s xs = refl
length-cut (suc n) s xs = ap suc (length-cut n s (drop s xs))

-- the first piece, and the pieces of the rest
cut-append_one : {X : Type 0} (n s : ℕ) (first rest : List X) → length first ≡ s → cut (suc n) s (first ++ rest) ≡ first ∷ cut n s rest
cut-append_one n s first rest e =
    rw (← e, take-append_seam first rest, drop-append_seam first rest) refl

with_range-append : {X : Type 0} (first rest : List X) (s i : ℕ) (ys : List X) → length first ≡ s → with_range (first ++ rest) (s + i) ys ≡ first ++ with_range rest i ys
with_range-append first rest s i ys e =
    let sum : length first + i + length ys ≡ length first + (i + length ys) = omega arith in
    rw (← e, take-append-add first rest i, sum, drop-append-add first rest (i + length ys)) (append_assoc first (take i rest) (ys ++ drop (i + length ys) rest))

-- one piece
pub get_or-cut : {X : Type 0} (n s p : ℕ) (xs : List X) → p < n → length xs ≡ n * s → get_or (cut n s xs) p [] ≡ range_of xs (p * s) s
get_or-cut zero s p xs lt long = absurd (omega arith)
get_or-cut (suc n) s zero xs lt long = ap (λ k. range_of xs k s) (let none : 0 ≡ 0 * s = omega arith in none)
get_or-cut (suc n) s (suc p) xs lt long =
    get_or-cut n s p (drop s xs) (omega arith) (length-drop s xs ∙ omega arith)
    ∙ ap (take s) (drop-drop (p * s) s xs ∙ ap (λ k. drop k xs) (let next : s + p * s ≡ suc p * s = omega arith in next))

pub cut-replicate : {X : Type 0} (n s : ℕ) (x : X) → cut n s (replicate (n * s) x) ≡ replicate n (replicate s x)
cut-replicate zero s x = refl
cut-replicate (suc n) s x =
    let left : suc n * s - s ≡ n * s = omega arith in
    rw (take-replicate s (suc n * s) x (omega arith), drop-replicate s (suc n * s) x, left, cut-replicate n s x) refl

-- two pieces have nothing in common
pub pieces_apart : (p q s : ℕ) → (q ≡ p → ⊥) → (p * s + s ≤ q * s) ⊎ (q * s + s ≤ p * s)
pieces_apart p q s ne =
    ⊎_elim
    (λ (lt : p < q). inl (piece_within p q s lt))
    (λ (le : q ≤ p). inr (piece_within q p s (omega arith)))
    (cases_lt p q)

-- ---- several pieces

pub cut-join : {X : Type 0} (k m s : ℕ) (ys zs : List X) → length ys ≡ k * s → cut (k + m) s (ys ++ zs) ≡ cut k s ys ++ cut m s zs
cut-join zero m s [] zs long = ap (λ n. cut n s zs) (omega arith)
cut-join zero m s (y ∷ ys) zs long = absurd (omega arith)
cut-join (suc k) m s ys zs long =
    let first : s ≤ length ys = omega arith in
    ap (λ n. cut n s (ys ++ zs)) (let same : suc k + m ≡ suc (k + m) = omega arith in same)
    ∙ rw (take-append-le s ys zs first, drop-append-le s ys zs first)
    (ap (λ xs. take s ys ∷ xs) (cut-join k m s (drop s ys) zs (length-drop s ys ∙ omega arith)))

-- one more piece at the end
pub cut-append : {X : Type 0} (n s : ℕ) (xs ys : List X) → length xs ≡ n * s → length ys ≡ s → cut (suc n) s (xs ++ ys) ≡ cut n s xs ++ ys ∷ []
cut-append n s xs ys long size =
    ap (λ k. cut k s (xs ++ ys)) (let next : suc n ≡ n + 1 = omega arith in next)
    ∙ cut-join n 1 s xs ys long
    ∙ ap (λ zs. cut n s xs ++ zs ∷ []) (take_all s ys (omega arith))

drop-cut : {X : Type 0} (k n s : ℕ) (xs : List X) → k ≤ n → length xs ≡ n * s → drop k (cut n s xs) ≡ cut (n - k) s (drop (k * s) xs)
drop-cut zero n s xs le long =
    ap (λ m. cut m s xs) (let same : n ≡ n - 0 = omega arith in same)
    ∙ ap (λ i. cut (n - 0) s (drop i xs)) (let none : 0 ≡ 0 * s = omega arith in none)
drop-cut (suc k) zero s xs le long = absurd (omega arith)
drop-cut (suc k) (suc n) s xs le long =
    drop-cut k n s (drop s xs) (omega arith) (length-drop s xs ∙ omega arith)
    ∙ ap (λ m. cut m s (drop (k * s) (drop s xs))) (let same : n - k ≡ suc n - suc k = omega arith in same)
    ∙ ap (cut (suc n - suc k) s) (drop-drop (k * s) s xs ∙ ap (λ i. drop i xs) (let next : s + k * s ≡ suc k * s = omega arith in next))

-- other pieces in the place of some
pub cut-with_ranges : {X : Type 0} (n s p k : ℕ) (xs ys : List X) → p + k ≤ n → length ys ≡ k * s → length xs ≡ n * s
    → cut n s (with_range xs (p * s) ys) ≡ with_range (cut n s xs) p (cut k s ys)
cut-with_ranges n s zero k xs ys le size long =
    ap (λ i. cut n s (with_range xs i ys)) (let none : 0 * s ≡ 0 = omega arith in none)
    ∙ ap (λ m. cut m s (ys ++ drop (0 + length ys) xs)) (let split : n ≡ k + (n - k) = omega arith in split)
    ∙ cut-join k (n - k) s ys (drop (0 + length ys) xs) size
    ∙ ap (λ i. cut k s ys ++ cut (n - k) s (drop i xs)) (let same : 0 + length ys ≡ k * s = omega arith in same)
    ∙ ap (λ zs. cut k s ys ++ zs) (sym (drop-cut k n s xs (omega arith) long))
    ∙ ap (λ i. cut k s ys ++ drop i (cut n s xs)) (let same : k ≡ 0 + length (cut k s ys) = omega (arith, length-cut k s ys) in same)
cut-with_ranges zero s (suc p) k xs ys le size long = absurd (omega arith)
cut-with_ranges (suc n) s (suc p) k xs ys le size long =
    let first = take s xs in
    let rest = drop s xs in
    let zs = cut k s ys in
    let few : length first ≡ s = length-take-le s xs (omega arith) in
    let left : length rest ≡ n * s = length-drop s xs ∙ omega arith in
    ap (λ ws. cut (suc n) s (with_range ws (suc p * s) ys)) (sym (take-append-drop s xs))
    ∙ ap (λ i. cut (suc n) s (with_range (first ++ rest) i ys)) (let split : suc p * s ≡ s + p * s = omega arith in split)
    ∙ ap (cut (suc n) s) (with_range-append first rest s (p * s) ys few)
    ∙ cut-append_one n s first (with_range rest (p * s) ys) few
    ∙ ap (λ ws. first ∷ ws) (cut-with_ranges n s p k rest ys (omega arith) size left)
    ∙ ap (λ i. (first ∷ take p (cut n s rest)) ++ (zs ++ drop i (first ∷ cut n s rest)))
    (let same : suc (p + length zs) ≡ suc p + length zs = omega arith in same)

-- another piece in its place
pub cut-with_range : {X : Type 0} (n s p : ℕ) (xs ys : List X) → p < n → length ys ≡ s → length xs ≡ n * s → cut n s (with_range xs (p * s) ys) ≡ set (cut n s xs) p ys
cut-with_range n s p xs ys lt size long =
    cut-with_ranges n s p 1 xs ys (omega arith) (omega (arith, size)) long
    ∙ ap (λ y. with_range (cut n s xs) p (y ∷ [])) (take_all s ys (omega (arith, size)))
    ∙ ap (λ k. take p (cut n s xs) ++ ys ∷ drop k (cut n s xs)) (let next : p + 1 ≡ suc p = omega arith in next)
    ∙ sym (set_split (cut n s xs) p ys (omega (arith, length-cut n s xs)))

pub joined-cut : {X : Type 0} (n s : ℕ) (xs : List X) → length xs ≡ n * s → joined_pieces (cut n s xs) ≡ xs
joined-cut zero s [] long = refl
joined-cut zero s (x ∷ xs) long = absurd (omega arith)
joined-cut (suc n) s xs long =
    ap (λ ys. take s xs ++ ys) (joined-cut n s (drop s xs) (length-drop s xs ∙ omega arith)) ∙ take-append-drop s xs

-- ---- a write of any length, in a buffer that keeps its own

-- `ys` over as many elements from i on, cut at `all` elements or filled up from the old ones
abbrev pub refilled : {X : Type 0} → ℕ → List X → ℕ → List X → List X
refilled all xs i ys = let zs = take i xs ++ (ys ++ drop (length ys) (drop i xs)) in take all (zs ++ drop (length zs) xs)

-- the pieces end where the list is cut
pub cut-take : {X : Type 0} (n s : ℕ) (xs : List X) → cut n s (take (n * s) xs) ≡ cut n s xs
cut-take zero s xs = refl
cut-take (suc n) s xs =
    let more : suc n * s ≡ s + n * s = omega arith in
    rw (more, take-take s (s + n * s) xs (omega arith), drop-take s (n * s) xs, cut-take n s (drop s xs)) refl

pub cut-refilled : {X : Type 0} (n s i : ℕ) (xs ys : List X) → i ≤ length xs → length xs ≡ n * s → cut n s (refilled (n * s) xs i ys) ≡ cut n s (with_range xs i ys)
cut-refilled n s i xs ys le long =
    let zs = take i xs ++ (ys ++ drop (length ys) (drop i xs)) in
    let enough : n * s ≤ length zs = omega (arith, length-append (take i xs) (ys ++ drop (length ys) (drop i xs)), length-append ys (drop (length ys) (drop i xs)), length-take-le i xs le, length-drop (length ys) (drop i xs), length-drop i xs) in
    ap (cut n s) (take-append-le (n * s) zs (drop (length zs) xs) enough)
    ∙ cut-take n s zs
    ∙ ap (λ rest. cut n s (take i xs ++ (ys ++ rest))) (drop-drop (length ys) i xs)
