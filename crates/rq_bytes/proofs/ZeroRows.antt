-- Rows of zeros.
use Rattle.std.proofs.Common.{◌≡◌, ℕ, zero, suc, ◌<◌, List, [], ◌∷◌, length, replicate, get_or, refl, sym, ap, ◌∙◌, arith}
use Rattle.std.specs.Int.Bits.{bit_or, or_zero_l}
use Rattle.std.proofs.lemmas.List.{ext_get_or, length-replicate}
use Rattle.std.proofs.lemmas.Nat.{le_or_l, le_or_r}
use Rattle.rq_algebra.proofs.Placewise.{at-zeros}
use lib.Lanes.{fold_l}

pub zeros_read : (xs : List ℕ) → xs ≡ replicate (length xs) 0 → (i : ℕ) → get_or xs i 0 ≡ 0
zeros_read xs e i = ap (λ ys. get_or ys i 0) e ∙ at-zeros (length xs) i

pub zeros_made : (xs : List ℕ) → ((i : ℕ) → i < length xs → get_or xs i 0 ≡ 0) → xs ≡ replicate (length xs) 0
zeros_made xs zeros = ext_get_or 0 xs (replicate (length xs) 0) (sym (length-replicate (length xs) 0)) (λ i l. zeros i l ∙ sym (at-zeros (length xs) i))

zeros_prepended : (x : ℕ) (xs : List ℕ) → x ≡ 0 → ((i : ℕ) → get_or xs i 0 ≡ 0) → (i : ℕ) → get_or (x ∷ xs) i 0 ≡ 0
zeros_prepended x xs first rest zero = first
zeros_prepended x xs first rest (suc i) = rest i

-- where no bit is set in some bits and in elements together, all of these are zero
all_zeros : (a : ℕ) (xs : List ℕ) → fold_l bit_or a xs ≡ 0 → (a ≡ 0) × ((i : ℕ) → get_or xs i 0 ≡ 0)
all_zeros a [] e = (e, λ i. refl)
all_zeros a (x ∷ xs) e =
    let rest = all_zeros (bit_or a x) xs e in
    (omega (arith, rest.0, le_or_l a x), zeros_prepended x xs (omega (arith, rest.0, le_or_r a x)) rest.1)

pub or_none : (xs : List ℕ) → fold_l bit_or 0 xs ≡ 0 → (i : ℕ) → get_or xs i 0 ≡ 0
or_none xs e = (all_zeros 0 xs e).1

pub or_zeros : (xs : List ℕ) → ((i : ℕ) → i < length xs → get_or xs i 0 ≡ 0) → fold_l bit_or 0 xs ≡ 0
or_zeros [] zeros = refl
or_zeros (x ∷ xs) zeros = ap (λ a. fold_l bit_or a xs) (or_zero_l x ∙ zeros 0 (omega arith)) ∙ or_zeros xs (λ i l. zeros (suc i) (omega arith))
