-- Rows of octets: sums and multiples, place by place.
use Rattle.std.specs.Prelude.{ℕ, List, map}
use Rattle.std.specs.Int.Bits.{bit_xor}
use Rattle.std.specs.Simd.Lanes.{zip2}
use Rattle.rq_standard.specs.Octets.{octet_mul}

-- the sum of two rows, as long as the shorter of them
abbrev pub row_sum : List ℕ → List ℕ → List ℕ
row_sum xs ys = zip2 bit_xor xs ys

-- the product of an octet and each octet of a row
abbrev pub row_multiple : ℕ → List ℕ → List ℕ
row_multiple a xs = map (λ x. octet_mul a x) xs
