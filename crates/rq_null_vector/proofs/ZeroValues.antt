-- Steps on the rows of a table that keep what solves them with all values zero.
use Rattle.std.proofs.Common.{◌≡◌, ◌≢◌, ℕ, ◌<◌, length, refl, sym, ap, ◌∙◌, arith}
use Rattle.std.proofs.lemmas.List.{length-set}
use Rattle.rq_algebra.specs.Steps.{AddsRow, ScalesRow, AddsValue, ScalesValue}
use Rattle.rq_algebra.proofs.Solutions.{SameSolutions-refl, SameSolutions-trans, adds_keeps, scales_keeps}
use Rattle.rq_algebra.proofs.Sums.{mul_zero}
use Rattle.rq_standard.specs.OctetField.{octets}
use Rattle.rq_standard.specs.Rows.{row_sum, row_multiple}
use Rattle.rq_parts.specs.DenseOctetMatrix.{OctetTable, row_at, with_row, entry_of, HasOctets}
use Rattle.rq_null_vector.specs.Homogeneous.{KeepsZeros}
use Rattle.rq_elimination.proofs.ChangedEntries.{multiplied_row, multiplied_octets, summed_row, summed_octets}

pub keeps_none : (table : OctetTable) → HasOctets table → KeepsZeros table table
keeps_none table are = record { width = refl; height = refl; octets_are = are; same = SameSolutions-refl octets (length table.rows) table.width (entry_of table) (λ _. 0) }

-- one step after others
pub keeps_more : (first second third : OctetTable) → KeepsZeros first second → KeepsZeros second third → KeepsZeros first third
keeps_more first second third keeps more = record {
  width = more.width ∙ keeps.width;
  height = more.height ∙ keeps.height;
  octets_are = more.octets_are;
  same = SameSolutions-trans octets (length first.rows) first.width keeps.same (rw (keeps.height, keeps.width) at more.same);
}

module _ (table : OctetTable) (are : HasOctets table) (dest scalar : ℕ) (in_dest : dest < length table.rows) (small : scalar < 256) (new : OctetTable) where
  -- a row is multiplied
  module _ (is : new ≡ with_row table dest (row_multiple scalar (row_at table dest))) where
    pub scales_row : ScalesRow octets (length table.rows) table.width dest scalar (entry_of table) (entry_of new)
    scales_row = rw is (multiplied_row table are dest scalar in_dest small)

    pub scaled_keeps : scalar ≢ 0 → KeepsZeros table new
    scaled_keeps nonzero = record {
      width = ap (λ (t : OctetTable). t.width) is;
      height = ap (λ (t : OctetTable). length t.rows) is ∙ length-set table.rows dest _;
      octets_are = rw is (multiplied_octets table are dest scalar in_dest small);
      same =
          let zeros : ScalesValue octets (length table.rows) dest scalar (λ _. 0) (λ _. 0) = record { at_dest = sym (mul_zero octets scalar); elsewhere = λ i l d. refl } in
          scales_keeps octets (length table.rows) table.width dest scalar in_dest small nonzero (entry_of table) (entry_of new) (λ _. 0) (λ _. 0) (λ k l. omega (arith, octets.one_below)) scales_row zeros;
    }

  -- a multiple of another row is added to it
  module _ (src : ℕ) (in_src : src < length table.rows) (is : new ≡ with_row table dest (row_sum (row_at table dest) (row_multiple scalar (row_at table src)))) where
    pub adds_row : AddsRow octets (length table.rows) table.width dest src scalar (entry_of table) (entry_of new)
    adds_row = rw is (summed_row table are dest scalar in_dest small src in_src)

    pub added_keeps : src ≢ dest → KeepsZeros table new
    added_keeps apart = record {
      width = ap (λ (t : OctetTable). t.width) is;
      height = ap (λ (t : OctetTable). length t.rows) is ∙ length-set table.rows dest _;
      octets_are = rw is (summed_octets table are dest scalar in_dest small src in_src);
      same =
          let zeros : AddsValue octets (length table.rows) dest src scalar (λ _. 0) (λ _. 0) = record { at_dest = sym (ap (octets.add 0) (mul_zero octets scalar) ∙ octets.zero_add 0); elsewhere = λ i l d. refl } in
          adds_keeps octets (length table.rows) table.width dest src scalar apart in_dest in_src (entry_of table) (entry_of new) (λ _. 0) (λ _. 0) adds_row zeros;
    }
