-- The entries of a matrix in which one row was changed.
use Rattle.std.proofs.Common.{lit<, refl, ◌≡◌, ◌≢◌, ℕ, ◌<◌, List, [], All, length, get_or, sym, ap, ◌∙◌, arith}
use Rattle.std.specs.Int.Bits.{bit_xor}
use Rattle.std.proofs.lemmas.List.{get_or-map, get_or-set_same, get_or-set_other, length-map, length-set}
use Rattle.std.proofs.lemmas.List.Elements.{All-set}
use Rattle.std.proofs.lemmas.Simd.{get_or-zip2, length-zip2}
use Rattle.rq_algebra.specs.FromLaws.{field_mul_is}
use Rattle.rq_algebra.specs.Steps.{AddsRow, ScalesRow}
use Rattle.rq_algebra.specs.Systems.{at}
use Rattle.rq_algebra.proofs.Sums.{zero_mul, add_zero}
use Rattle.rq_algebra.proofs.Elements.{adds_elements, scales_elements}
use Rattle.rq_standard.specs.Octets.{octet_mul, octet_inverse, octet_div}
use Rattle.rq_standard.specs.OctetFacts.{one-mul, inverse-lt}
use Rattle.rq_standard.specs.OctetField.{octets, octet_laws}
use Rattle.rq_standard.specs.Rows.{row_sum, row_multiple}
use Rattle.rq_parts.specs.DenseOctetMatrix.{OctetTable, row_at, with_row, entry_of, HasOctets}

-- the product of octets
pub mul_is : (x y : ℕ) → x < 256 → y < 256 → octets.mul x y ≡ octet_mul x y
mul_is x y l m = field_mul_is 8 octet_mul octet_inverse octet_laws x y l m

module _ (table : OctetTable) (dest : ℕ) (row : List ℕ) where
  pub entry_of-with_row_same : (k : ℕ) → dest < length table.rows → entry_of (with_row table dest row) dest k ≡ at row k
  entry_of-with_row_same k l = ap (λ (r : List ℕ). get_or r k 0) (get_or-set_same table.rows dest row [] l)

  pub entry_of-with_row_other : (i k : ℕ) → i ≢ dest → entry_of (with_row table dest row) i k ≡ entry_of table i k
  entry_of-with_row_other i k d = ap (λ (r : List ℕ). get_or r k 0) (get_or-set_other table.rows dest i row [] d)

-- places of a row that is multiplied, or added to
pub at-row_multiple : (c : ℕ) (xs : List ℕ) (k : ℕ) → k < length xs → c < 256 → at xs k < 256 → at (row_multiple c xs) k ≡ octets.mul c (at xs k)
at-row_multiple c xs k l m n = get_or-map (octet_mul c) xs k 0 0 l ∙ sym (mul_is c (at xs k) m n)

module _ (table : OctetTable) (are : HasOctets table) (dest scalar : ℕ) (in_dest : dest < length table.rows) (is : scalar < 256) where
  long : (i : ℕ) → i < length table.rows → length (row_at table i) ≡ table.width
  long i l = are.widths i [] l

  widths_with : (row : List ℕ) → length row ≡ table.width → All (λ r. length r ≡ table.width) (with_row table dest row).rows
  widths_with row l = All-set (λ r. length r ≡ table.width) table.rows dest row l are.widths

  pub multiplied_row : ScalesRow octets (length table.rows) table.width dest scalar (entry_of table) (entry_of (with_row table dest (row_multiple scalar (row_at table dest))))
  multiplied_row = record {
    at_dest = λ k l. entry_of-with_row_same table dest _ k in_dest ∙ at-row_multiple scalar (row_at table dest) k (omega (arith, long dest in_dest)) is (are.elements dest k in_dest l);
    elsewhere = λ i k l m d. entry_of-with_row_other table dest _ i k d;
  }

  pub multiplied_octets : HasOctets (with_row table dest (row_multiple scalar (row_at table dest)))
  multiplied_octets = record {
    widths = widths_with (row_multiple scalar (row_at table dest)) (length-map (row_at table dest) (octet_mul scalar) ∙ long dest in_dest);
    elements = λ i k l m. scales_elements octets (length table.rows) table.width dest scalar (entry_of table) _ are.elements multiplied_row i k (rw length-set at l) m;
  }

  module _ (src : ℕ) (in_src : src < length table.rows) where
    pub summed_row : AddsRow octets (length table.rows) table.width dest src scalar (entry_of table) (entry_of (with_row table dest (row_sum (row_at table dest) (row_multiple scalar (row_at table src)))))
    summed_row = record {
      at_dest = λ k l. entry_of-with_row_same table dest _ k in_dest
          ∙ get_or-zip2 bit_xor (row_at table dest) (row_multiple scalar (row_at table src)) k 0 0 0 (omega (arith, long dest in_dest)) (omega (arith, long src in_src, length-map (row_at table src) (octet_mul scalar)))
          ∙ ap (bit_xor (entry_of table dest k)) (at-row_multiple scalar (row_at table src) k (omega (arith, long src in_src)) is (are.elements src k in_src l));
      elsewhere = λ i k l m d. entry_of-with_row_other table dest _ i k d;
    }

    pub summed_octets : HasOctets (with_row table dest (row_sum (row_at table dest) (row_multiple scalar (row_at table src))))
    summed_octets = record {
      widths =
          let multiple = length-map (row_at table src) (octet_mul scalar) ∙ long src in_src in
          widths_with (row_sum (row_at table dest) (row_multiple scalar (row_at table src))) (length-zip2 bit_xor (row_at table dest) (row_multiple scalar (row_at table src)) (long dest in_dest ∙ sym multiple) ∙ long dest in_dest);
      elements = λ i k l m. adds_elements octets (length table.rows) table.width dest scalar (entry_of table) _ are.elements src in_dest summed_row i k (rw length-set at l) m;
    }

-- what needs no step: a row that is multiplied by the inverse of 1, or takes 0 times a row
inverse_of_one : octets.inverse 1 ≡ 1
inverse_of_one =
    let one : 1 < 256 = lit< tt in
    let small = octets.inverse_below 1 one (λ e. omega (arith, e)) in
    sym (octets.one_mul (octets.inverse 1) small) ∙ octets.mul_comm 1 (octets.inverse 1) ∙ octets.inverse_mul 1 one (λ e. omega (arith, e))

pub one_scales : (table : OctetTable) (dest x : ℕ) → HasOctets table → dest < length table.rows → x ≡ 1 → ScalesRow octets (length table.rows) table.width dest (octets.inverse x) (entry_of table) (entry_of table)
one_scales table dest x are in_dest e = record {
  at_dest = λ k l. cc (e, inverse_of_one, octets.one_mul (entry_of table dest k) (are.elements dest k in_dest l));
  elsewhere = λ i k l m d. refl;
}

pub zero_adds : (table : OctetTable) (dest src x : ℕ) → x ≡ 0 → AddsRow octets (length table.rows) table.width dest src x (entry_of table) (entry_of table)
zero_adds table dest src x e = record {
  at_dest = λ k l. cc (e, zero_mul octets (entry_of table src k), add_zero octets (entry_of table dest k));
  elsewhere = λ i k l m d. refl;
}

-- the quotient of 1 is the inverse
pub one-div : (x : ℕ) → x < 256 → x ≢ 0 → octet_div 1 x ≡ octets.inverse x
unfolding octet_div
one-div x l d = one-mul (octet_inverse x) (inverse-lt x l d)
