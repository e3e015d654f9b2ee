-- Multiples of rows.
use Rattle.std.proofs.Common.{◌≡◌, ℕ, ◌<◌, List, length, get_or, ◌∙◌, arith}
use Rattle.std.proofs.lemmas.List.{ext_get_or, get_or-map, length-map}
use Rattle.rq_standard.specs.Octets.{octet_mul}
use Rattle.rq_standard.specs.OctetFacts.{one-mul}
use Rattle.rq_standard.specs.Rows.{row_multiple}

-- a row is its own product by 1
pub times_one : (row : List ℕ) → ((i : ℕ) → i < length row → get_or row i 0 < 256) → row_multiple 1 row ≡ row
times_one row small =
    let long : length (row_multiple 1 row) ≡ length row = length-map row (octet_mul 1) in
    ext_get_or 0 (row_multiple 1 row) row long (λ i l.
    let below : i < length row = omega (arith, long) in
    get_or-map (octet_mul 1) row i 0 0 below ∙ one-mul (get_or row i 0) (small i below))
