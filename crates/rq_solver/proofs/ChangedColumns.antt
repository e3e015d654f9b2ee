-- A column in which one entry is set.
use Rattle.std.proofs.Common.{◌≡◌, ◌≢◌, ℕ, ◌<◌, List, [], ◌∷◌, ◌++◌, sym, ap, ◌∙◌, inl, inr}
use Rattle.std.proofs.lemmas.Bool.{cases_eq}
use Rattle.rq_algebra.specs.Field.{Field}
use Rattle.rq_algebra.specs.Operations.{plain}
use Rattle.rq_algebra.specs.Parities.{sum_listed}
use Rattle.rq_algebra.specs.Systems.{dot}
use Rattle.rq_algebra.specs.Changes.{with_at}
use Rattle.rq_algebra.proofs.ChangeLaws.{with_at_same, with_at_other}
use Rattle.rq_algebra.proofs.Places.{sum_but}
use Rattle.rq_algebra.proofs.Sums.{add_zero, dot_below_size, mul_zero, sum_same, zero_mul}

-- entry k, which was 0
module _ (F : Field) (n k : ℕ) (old new : ℕ → ℕ) (in_width : k < n) (zero : old k ≡ 0) (others : (j : ℕ) → j < n → j ≢ k → new j ≡ old j) where
  dot_changed : (r : ℕ → ℕ) → dot F n r new ≡ F.add (dot F n r old) (F.mul (r k) (new k))
  unfolding dot
  dot_changed r =
      let terms : ℕ → ℕ = λ j. F.mul (r j) (new j) in
      sum_but F n terms k in_width
      ∙ ap (λ (s : ℕ). F.add s (terms k)) (sum_same F n (with_at terms k 0) (λ j. F.mul (r j) (old j)) (λ j l. elim (cases_eq j k) [
        | inl e ↦ with_at_same terms k 0 j e ∙ sym (ap (λ (i : ℕ). F.mul (r j) (old i)) e ∙ ap (F.mul (r j)) zero ∙ mul_zero F (r j))
        | inr d ↦ with_at_other terms k 0 j d ∙ ap (F.mul (r j)) (others j l d)
      ]))

  -- a row that has 0 there says of the column what it said
  pub dot_kept : (r : ℕ → ℕ) → r k ≡ 0 → dot F n r new ≡ dot F n r old
  dot_kept r none = dot_changed r ∙ cc (none, zero_mul F (new k), add_zero F (dot F n r old))

  -- one that has 1 there says 0, where the entry is what it said
  pub dot_own : (r : ℕ → ℕ) → r k ≡ 1 → new k ≡ dot F n r old → dot F n r new ≡ 0
  dot_own r one is = dot_changed r ∙ cc (one, is, F.one_mul (dot F n r old) (dot_below_size F n r old), F.add_self (dot F n r old))

-- one more index
pub sum_plain-push : (F : Field) (indices : List ℕ) (index : ℕ) (column : ℕ → ℕ) → sum_listed (plain F) (indices ++ index ∷ []) column ≡ F.add (sum_listed (plain F) indices column) (column index)
unfolding sum_listed
sum_plain-push F [] index column = F.add_comm (column index) 0
sum_plain-push F (first ∷ indices) index column =
    ap (F.add (column first)) (sum_plain-push F indices index column) ∙ sym (F.add_assoc (column first) (sum_listed (plain F) indices column) (column index))
