-- Rows of bits in a system in which some rows are of octets.
use Rattle.std.proofs.Common.{◌≡◌, ◌≢◌, ℕ, ◌+◌, ◌-◌, ◌<◌, ◌⊎◌, arith, inl, inr}
use Rattle.std.proofs.lemmas.Bool.{cases_lt}
use Rattle.rq_standard.specs.ConstraintMatrix.{with_octet_rows}

module _ (first count : ℕ) (octet : ℕ → ℕ → ℕ) where
  -- no row of octets stands there
  abbrev pub IsBitRow : ℕ → Type 0
  IsBitRow r = (i : ℕ) → i < count → first + i ≢ r

  pub octet_row_or_bit_row : (r : ℕ) → ((i : ℕ) × (i < count) × (first + i ≡ r)) ⊎ IsBitRow r
  octet_row_or_bit_row r = elim (cases_lt r first) [
    | inl before ↦ inr (λ i l e. omega (arith, e, before))
    | inr from ↦
        let i : ℕ = r - first in
        let is : first + i ≡ r = omega arith in
        elim (cases_lt i count) [
          | inl here ↦ inl (i, here, is)
          | inr behind ↦ inr (λ q l e. let z : q ≡ i = omega (arith, e, is) in omega (arith, z, l, behind))
        ]
  ]

  module _ (bit : ℕ → ℕ → ℕ) where
    pub octet_row : (i k : ℕ) → i < count → with_octet_rows first count bit octet (first + i) k ≡ octet i k
    octet_row i k l = grind (arith, l)

    pub bit_row : (r k : ℕ) → IsBitRow r → with_octet_rows first count bit octet r k ≡ bit r k
    bit_row r k out = grind (arith, out (r - first))

  -- other bits in the rows of bits
  pub with_octet_rows-same : (height width : ℕ) (bit other : ℕ → ℕ → ℕ) → ((i k : ℕ) → i < height → k < width → bit i k ≡ other i k) → (i k : ℕ) → i < height → k < width → with_octet_rows first count bit octet i k ≡ with_octet_rows first count other octet i k
  with_octet_rows-same height width bit other same i k l m = grind (arith, same i k l m)
