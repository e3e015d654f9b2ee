-- Symbols of octets are rows of octets.
use Rattle.std.proofs.Common.{◌%◌, ◌≡◌, ℕ, ◌<◌, List, [], ◌∷◌, map, length, refl, ap, ◌∙◌, arith}
use Rattle.std.specs.Int.Bits.{bit_xor}
use Rattle.rq_algebra.specs.Symbols.{add_symbols}
use Rattle.rq_algebra.specs.FromLaws.{low_is}
use Rattle.rq_standard.specs.OctetProducts.{mul-low}
use Rattle.rq_standard.specs.Octets.{octet_mul, octet_inverse}
use Rattle.rq_standard.specs.OctetField.{octets, octet_laws}
use Rattle.rq_standard.specs.Rows.{row_sum, row_multiple}

pub add_symbols-rows : (xs ys : List ℕ) → length ys ≡ length xs → add_symbols octets xs ys ≡ row_sum xs ys
unfolding add_symbols
add_symbols-rows [] [] e = refl
add_symbols-rows [] (y ∷ ys) e = absurd (omega arith)
add_symbols-rows (x ∷ xs) [] e = absurd (omega arith)
add_symbols-rows (x ∷ xs) (y ∷ ys) e = ap (λ zs. bit_xor x y ∷ zs) (add_symbols-rows xs ys (omega arith))

pub scale-rows : (a : ℕ) (xs : List ℕ) → a < 256 → map (octets.mul a) xs ≡ row_multiple a xs
scale-rows a [] l = refl
scale-rows a (x ∷ xs) l =
    ap (λ y. y ∷ map (octets.mul a) xs) (ap (λ b. octet_mul b (x % 256)) (low_is 8 octet_mul octet_inverse octet_laws a l) ∙ mul-low a x)
    ∙ ap (λ ys. octet_mul a x ∷ ys) (scale-rows a xs l)
