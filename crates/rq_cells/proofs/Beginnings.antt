-- Bytes that begin with others, by the test and by what it says.
use Rattle.std.proofs.Common.{◌≡◌, ℕ, ◌+◌, ◌<◌, ◌≤◌, List, [], ◌∷◌, ◌++◌, length, take, drop, get_or, refl, sym, ap, subst, ◌∙◌, arith, true, false, not, ◌&&◌, nat_eq, append_assoc, drop_at, length-take, ◌⊎◌, inl, inr}
use Rattle.std.specs.List.{starts_with}
use Rattle.std.specs.Cmp.Lexicographic.{pointwise}
use Rattle.std.specs.Io.{StartsWith}
use Rattle.std.proofs.Transfers.{starts_with_of_append}
use Rattle.std.proofs.KnownBytes.{starts_with_rest}
use Rattle.std.proofs.lemmas.List.{take-append-le, length-drop, get_or-take, get_or-drop, get_or_past}
use Rattle.std.proofs.lemmas.Bool.{cases_lt, and_parts, eq-eqb, eqb-true, not-false, false_from_ne_true, true≢false}

pub same_bytes : (xs : List ℕ) → pointwise nat_eq xs xs ≡ true
same_bytes [] = refl
same_bytes (x ∷ xs) = ap (λ b. b && pointwise nat_eq xs xs) (eq-eqb x x refl) ∙ same_bytes xs

pub same_from_test : (xs ys : List ℕ) → pointwise nat_eq xs ys ≡ true → ys ≡ xs
same_from_test [] [] h = refl
same_from_test [] (y ∷ ys) h = absurd (true≢false (sym h))
same_from_test (x ∷ xs) [] h = absurd (true≢false (sym h))
same_from_test (x ∷ xs) (y ∷ ys) h =
    let both = and_parts (nat_eq x y) (pointwise nat_eq xs ys) h in
    λ i. sym (eqb-true x y both.0) i ∷ same_from_test xs ys both.1 i

-- what the test says
pub begins : (xs needle : List ℕ) → starts_with nat_eq xs needle ≡ true → StartsWith xs needle
begins xs needle h = same_from_test needle (take (length needle) xs) h

pub test_true : (xs needle : List ℕ) → StartsWith xs needle → starts_with nat_eq xs needle ≡ true
test_true xs needle h = ap (pointwise nat_eq needle) h ∙ same_bytes needle

pub test_false : (xs needle : List ℕ) → (StartsWith xs needle → ⊥) → starts_with nat_eq xs needle ≡ false
test_false xs needle h = false_from_ne_true (starts_with nat_eq xs needle) (λ e. h (begins xs needle e))

pub refuted : (xs needle : List ℕ) → starts_with nat_eq xs needle ≡ false → StartsWith xs needle → ⊥
refuted xs needle e s = true≢false (sym (test_true xs needle s) ∙ e)

-- what a test for inequality says
pub differ : (xs ys : List ℕ) → not (pointwise nat_eq xs ys) ≡ true → xs ≡ ys → ⊥
differ xs ys e is = true≢false (sym e ∙ ap not (ap (λ zs. pointwise nat_eq zs ys) is ∙ same_bytes ys))

pub same_bytes_by : (xs ys : List ℕ) → not (pointwise nat_eq xs ys) ≡ false → xs ≡ ys
same_bytes_by xs ys e = sym (same_from_test xs ys (not-false (pointwise nat_eq xs ys) e))

-- what stands behind doesn't matter where the bytes are long enough
pub test_more : (xs rest needle : List ℕ) → length needle ≤ length xs → starts_with nat_eq (xs ++ rest) needle ≡ starts_with nat_eq xs needle
test_more xs rest needle h = ap (pointwise nat_eq needle) (take-append-le (length needle) xs rest h)

-- two parts, one behind another
pub begins_first : (xs a b : List ℕ) → StartsWith xs (a ++ b) → StartsWith xs a
begins_first xs a b h = starts_with_of_append xs a (b ++ drop (length (a ++ b)) xs) (starts_with_rest xs (a ++ b) h ∙ append_assoc a b (drop (length (a ++ b)) xs))

pub begins_second : (xs a b : List ℕ) → StartsWith xs (a ++ b) → StartsWith (drop (length a) xs) b
begins_second xs a b h =
    let behind = drop (length (a ++ b)) xs in
    starts_with_of_append (drop (length a) xs) b behind
    (ap (drop (length a)) (starts_with_rest xs (a ++ b) h ∙ append_assoc a b behind) ∙ drop_at a (b ++ behind) (length a) refl)

pub begins_both : (xs a b : List ℕ) → StartsWith xs a → StartsWith (drop (length a) xs) b → StartsWith xs (a ++ b)
begins_both xs a b first second =
    let behind = drop (length b) (drop (length a) xs) in
    starts_with_of_append xs (a ++ b) behind
    (starts_with_rest xs a first ∙ ap (λ l. a ++ l) (starts_with_rest (drop (length a) xs) b second) ∙ sym (append_assoc a b behind))

-- ---- bytes

-- numbers below 256
abbrev pub AreBytes : List ℕ → Type 0
AreBytes bytes = (i : ℕ) → i < length bytes → get_or bytes i 0 < 256

pub part_fits : (bytes : List ℕ) (from n k : ℕ) → AreBytes bytes → get_or (take n (drop from bytes)) k 0 < 256
part_fits bytes from n k fits = by (cases_lt k (length (take n (drop from bytes))))
  where
    by : (k < length (take n (drop from bytes))) ⊎ (length (take n (drop from bytes)) ≤ k) → get_or (take n (drop from bytes)) k 0 < 256
    by (inl within) =
        let below : k < n = omega (arith, within, length-take n (drop from bytes)) in
        let inside : from + k < length bytes = omega (arith, within, length-take n (drop from bytes), length-drop from bytes) in
        subst (λ x. x < 256) (sym (get_or-take n (drop from bytes) k 0 below ∙ get_or-drop from bytes k 0)) (fits (from + k) inside)
    by (inr past) = subst (λ x. x < 256) (sym (get_or_past (take n (drop from bytes)) k 0 past)) (omega arith)
