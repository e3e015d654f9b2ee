-- What HDPC rows have where factors change.
use Rattle.std.proofs.Common.{◌≡◌, ◌≢◌, ℕ, ◌<◌, length, sym, ap, ◌∙◌, subst, arith, inl, inr}
use Rattle.std.proofs.lemmas.Bool.{cases_eq}
use Rattle.rq_algebra.specs.Steps.{AddsRow, ScalesRow}
use Rattle.rq_algebra.specs.Systems.{at, HasElements}
use Rattle.rq_algebra.proofs.Sums.{add_zero, zero_mul}
use Rattle.rq_standard.specs.OctetField.{octets}
use Rattle.rq_parts.specs.DenseOctetMatrix.{OctetTable, entry_of, HasOctets}
use Rattle.rq_elimination.specs.HdpcRows.{HdpcTable, octet_in}
use Rattle.rq_algebra.proofs.Choices.{if_apart}

-- ---- factors

module _ (hdpc : HdpcTable) where
  pub first_octet : (k : ℕ) → octet_in hdpc 0 k ≡ octets.mul (at hdpc.factors 0) (entry_of hdpc.table 0 k)
  first_octet k = octets.zero_add _

  pub other_octet : (i k : ℕ) → i ≢ 0 → octet_in hdpc i k ≡ octets.add (entry_of hdpc.table i k) (octets.mul (at hdpc.factors i) (entry_of hdpc.table 0 k))
  other_octet i k d = ap (λ (x : ℕ). octets.add x (octets.mul (at hdpc.factors i) (entry_of hdpc.table 0 k))) (if_apart i 0 0 (entry_of hdpc.table i k) d)

  pub octet_elements : HasOctets hdpc.table → HasElements octets (length hdpc.table.rows) hdpc.table.width (octet_in hdpc)
  octet_elements are = λ i k l m. elim (cases_eq i 0) [
    | inl e ↦ rw (e, first_octet k) (octets.mul_below (at hdpc.factors 0) (entry_of hdpc.table 0 k))
    | inr d ↦ rw (other_octet i k d) (octets.add_below (entry_of hdpc.table i k) (octets.mul (at hdpc.factors i) (entry_of hdpc.table 0 k)) (are.elements i k l m) (octets.mul_below (at hdpc.factors i) (entry_of hdpc.table 0 k)))
  ]

module _ (old new : HdpcTable) (same : new.table ≡ old.table) (scalar : ℕ) where
  same_entry : (i k : ℕ) → entry_of new.table i k ≡ entry_of old.table i k
  same_entry i k = ap (λ (t : OctetTable). entry_of t i k) same

  -- a row has the same octets where its factor is the same
  same_factor : (i k : ℕ) → at new.factors i ≡ at old.factors i → octet_in new i k ≡ octet_in old i k
  same_factor i k e = elim (cases_eq i 0) [
    | inl z ↦ rw z (first_octet new k ∙ cc (rw z at e, same_entry 0 k) ∙ sym (first_octet old k))
    | inr d ↦ other_octet new i k d ∙ cc (e, same_entry i k, same_entry 0 k) ∙ sym (other_octet old i k d)
  ]

  pub factor_adds : (dest count width : ℕ) → dest ≢ 0 → at new.factors dest ≡ octets.add (at old.factors dest) (octets.mul scalar (at old.factors 0)) → ((i : ℕ) → i ≢ dest → at new.factors i ≡ at old.factors i)
      → AddsRow octets count width dest 0 scalar (octet_in old) (octet_in new)
  factor_adds dest count width d here others = record {
    at_dest = λ k l.
        let own : ℕ = entry_of old.table dest k in
        let sum : ℕ = entry_of old.table 0 k in
        let f : ℕ = at old.factors dest in
        let lead : ℕ = at old.factors 0 in
        let spread : octets.mul (octets.add f (octets.mul scalar lead)) sum ≡ octets.add (octets.mul f sum) (octets.mul scalar (octets.mul lead sum)) =
        octets.mul_comm (octets.add f (octets.mul scalar lead)) sum ∙ octets.mul_add sum f (octets.mul scalar lead)
        ∙ ap (λ (x : ℕ). octets.add x (octets.mul sum (octets.mul scalar lead))) (octets.mul_comm sum f)
        ∙ ap (octets.add (octets.mul f sum)) (octets.mul_comm sum (octets.mul scalar lead) ∙ octets.mul_assoc scalar lead sum) in
        other_octet new dest k d
        ∙ rw (same_entry dest k, same_entry 0 k, here, spread, other_octet old dest k d, first_octet old k) (sym (octets.add_assoc own (octets.mul f sum) (octets.mul scalar (octets.mul lead sum))));
    elsewhere = λ i k l m e. same_factor i k (others i e);
  }

  pub factor_scales : (count width : ℕ) → at new.factors 0 ≡ octets.mul scalar (at old.factors 0) → ((i : ℕ) → i ≢ 0 → at new.factors i ≡ at old.factors i)
      → ScalesRow octets count width 0 scalar (octet_in old) (octet_in new)
  factor_scales count width here others = record {
    at_dest = λ k l. first_octet new k ∙ rw (same_entry 0 k, here, first_octet old k) (octets.mul_assoc scalar (at old.factors 0) (entry_of old.table 0 k));
    elsewhere = λ i k l m e. same_factor i k (others i e);
  }

-- ---- the same table

module _ (start hdpc : HdpcTable) (same : hdpc.table ≡ start.table) where
  pub elements_beside : HasOctets start.table → HasElements octets (length start.table.rows) start.table.width (octet_in hdpc)
  elements_beside are =
      subst (λ (t : OctetTable). HasElements octets (length t.rows) t.width (octet_in hdpc)) same
      (octet_elements hdpc (subst HasOctets (sym same) are))

  pub adds_beside : (now : HdpcTable) (dest src scalar : ℕ) → AddsRow octets (length hdpc.table.rows) hdpc.table.width dest src scalar (octet_in hdpc) (octet_in now) → AddsRow octets (length start.table.rows) start.table.width dest src scalar (octet_in hdpc) (octet_in now)
  adds_beside now dest src scalar adds = subst (λ (t : OctetTable). AddsRow octets (length t.rows) t.width dest src scalar (octet_in hdpc) (octet_in now)) same adds

  pub scales_beside : (now : HdpcTable) (dest scalar : ℕ) → ScalesRow octets (length hdpc.table.rows) hdpc.table.width dest scalar (octet_in hdpc) (octet_in now) → ScalesRow octets (length start.table.rows) start.table.width dest scalar (octet_in hdpc) (octet_in now)
  scales_beside now dest scalar scales = subst (λ (t : OctetTable). ScalesRow octets (length t.rows) t.width dest scalar (octet_in hdpc) (octet_in now)) same scales

-- with factors 1 and 0 the rows have what the table has
pub first_factors : (hdpc : HdpcTable) → HasOctets hdpc.table → at hdpc.factors 0 ≡ 1 → ((i : ℕ) → i ≢ 0 → at hdpc.factors i ≡ 0) → (i k : ℕ) → i < length hdpc.table.rows → k < hdpc.table.width → octet_in hdpc i k ≡ entry_of hdpc.table i k
first_factors hdpc are one zeros i k l m = elim (cases_eq i 0) [
  | inl e ↦ rw e (first_octet hdpc k ∙ ap (λ (x : ℕ). octets.mul x (entry_of hdpc.table 0 k)) one ∙ octets.one_mul (entry_of hdpc.table 0 k) (are.elements 0 k (omega (arith, l)) m))
  | inr d ↦ other_octet hdpc i k d ∙ ap (λ (x : ℕ). octets.add (entry_of hdpc.table i k) (octets.mul x (entry_of hdpc.table 0 k))) (zeros i d)
      ∙ ap (octets.add (entry_of hdpc.table i k)) (zero_mul octets (entry_of hdpc.table 0 k)) ∙ add_zero octets (entry_of hdpc.table i k)
]
