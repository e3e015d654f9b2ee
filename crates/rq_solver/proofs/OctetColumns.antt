-- What HDPC rows have in the columns that weren't worked on yet.
use Rattle.std.proofs.Common.{◌≡◌, ◌≢◌, ℕ, ◌+◌, ◌<◌, ◌≤◌, sym, ap, arith, inl, inr, if◌then◌else◌}
use Rattle.std.specs.Prelude.{nat_lt}
use Rattle.std.proofs.lemmas.Bool.{cases_lt}
use Rattle.rq_algebra.specs.Steps.{AddsRow, ScalesRow}
use Rattle.rq_algebra.specs.Systems.{HasElements}
use Rattle.rq_algebra.proofs.Sums.{mul_zero}
use Rattle.rq_standard.specs.OctetField.{octets}
use Rattle.rq_solver.specs.HdpcOctets.{octets_from, with_zeros}

-- ---- columns from one on

module _ (column : ℕ) (octet : ℕ → ℕ → ℕ) where
  pub before_column : (i k : ℕ) → k < column → octets_from column octet i k ≡ 0
  before_column i k l = grind (arith, l)

  pub from_column : (i k : ℕ) → column ≤ k → octets_from column octet i k ≡ octet i k
  from_column i k l = grind (arith, l)

  pub from_elements : (count width : ℕ) → HasElements octets count width octet → HasElements octets count width (octets_from column octet)
  from_elements count width are = λ i k l m. grind (arith, are i k l m)

module _ (column count width dest scalar : ℕ) (was now : ℕ → ℕ → ℕ) where
  pub from_adds : (src : ℕ) → AddsRow octets count width dest src scalar was now → AddsRow octets count width dest src scalar (octets_from column was) (octets_from column now)
  from_adds src adds = record {
    at_dest = λ k l. elim (cases_lt k column) [
      | inl before ↦ rw (before_column column was dest k before, before_column column was src k before, before_column column now dest k before, mul_zero octets scalar) (sym (octets.zero_add 0))
      | inr from ↦ rw (from_column column was dest k from, from_column column was src k from, from_column column now dest k from) (adds.at_dest k l)
    ];
    elsewhere = λ i k l m d. ap (λ (octet : ℕ). if nat_lt k column then 0 else octet) (adds.elsewhere i k l m d);
  }

  pub from_scales : ScalesRow octets count width dest scalar was now → ScalesRow octets count width dest scalar (octets_from column was) (octets_from column now)
  from_scales scales = record {
    at_dest = λ k l. elim (cases_lt k column) [
      | inl before ↦ rw (before_column column was dest k before, before_column column now dest k before) (sym (mul_zero octets scalar))
      | inr from ↦ rw (from_column column was dest k from, from_column column now dest k from) (scales.at_dest k l)
    ];
    elsewhere = λ i k l m d. ap (λ (octet : ℕ). if nat_lt k column then 0 else octet) (scales.elsewhere i k l m d);
  }

-- ---- zeros in a column of the first rows

module _ (column done : ℕ) (octet : ℕ → ℕ → ℕ) where
  pub zero_here : (i : ℕ) → i < done → with_zeros column done octet i column ≡ 0
  zero_here i l = grind (arith, l)

  pub same_beside : (i k : ℕ) → k ≢ column → with_zeros column done octet i k ≡ octet i k
  same_beside i k d = grind (arith, d)

  pub same_behind : (i k : ℕ) → done ≤ i → with_zeros column done octet i k ≡ octet i k
  same_behind i k l = grind (arith, l)

-- where all rows have 0 in the column, those from place `done` on from the start, only the columns behind it are left
pub zeros_in_all : (column done count : ℕ) (octet : ℕ → ℕ → ℕ) → ((i : ℕ) → done ≤ i → i < count → octet i column ≡ 0) → (i k : ℕ) → i < count → with_zeros column done (octets_from column octet) i k ≡ octets_from (column + 1) octet i k
zeros_in_all column done count octet zeros i k l = grind (arith, l, zeros i)
