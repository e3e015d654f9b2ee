-- The sum at listed places is the dot with their parities.
use Rattle.std.proofs.Common.{◌≡◌, ℕ, ◌+◌, ◌<◌, ◌%◌, ◌⊎◌, List, [], ◌∷◌, if◌then◌else◌, ◌==◌, sym, ap, ◌∙◌, refl, arith, inl, inr}
use Rattle.std.specs.List.{count_by}
use Rattle.std.proofs.lemmas.Bool.{cases_eq}
use Rattle.std.proofs.lemmas.List.Sums.{sum_by-cons}
use Rattle.std.proofs.lemmas.List.Elements.{All-head, All-tail}
use Rattle.rq_algebra.specs.Field.{Field}
use Rattle.rq_algebra.specs.Systems.{dot, IsColumn}
use Rattle.rq_algebra.specs.Operations.{plain}
use Rattle.rq_algebra.specs.Parities.{sum_listed, parity}
use Rattle.rq_algebra.specs.SymbolLaws.{SumIsDotOfParities}
use Rattle.rq_algebra.proofs.Choices.{if_same, if_apart}
use Rattle.rq_algebra.proofs.Sums.{add_zero, zero_mul, sum_same, sum_add, dot_zero, dot_one}

-- 1 at p alone
abbrev pub unit : ℕ → ℕ → ℕ
unit p k = if p == k then 1 else 0

pub parity_cases : (places : List ℕ) (k : ℕ) → (parity places k ≡ 0) ⊎ (parity places k ≡ 1)
unfolding parity
parity_cases places k = elim (cases_eq (parity places k) 0) [ inl e ↦ inl e | inr d ↦ inr (omega arith) ]

add_mod : (a b : ℕ) → (a + b) % 2 ≡ (a + b % 2) % 2
add_mod a b = omega arith

-- a place that is listed once more
pub parity-cons : (p : ℕ) (places : List ℕ) (k : ℕ) → parity (p ∷ places) k ≡ (unit p k + parity places k) % 2
unfolding parity
parity-cons p places k =
    ap (λ (n : ℕ). n % 2) (sum_by-cons (λ q. unit q k) p places) ∙ add_mod (unit p k) (count_by (λ q. q == k) places)

module _ (F : Field) where
  mul_parity : (p : ℕ) (places : List ℕ) (k y : ℕ) → F.mul (parity (p ∷ places) k) y ≡ F.add (F.mul (unit p k) y) (F.mul (parity places k) y)
  mul_parity p places k y = rw (parity-cons p places k) (elim (cases_eq p k) [
    | inr d ↦ rw (if_apart p k 1 0 d) (elim (parity_cases places k) [
      | inl z ↦ rw z (cc (zero_mul F y, F.zero_add 0))
      | inr o ↦ rw o (cc (zero_mul F y, F.zero_add (F.mul 1 y)))
    ])
    | inl e ↦ rw (if_same p k 1 0 e) (elim (parity_cases places k) [
      | inl z ↦ rw z (cc (zero_mul F y, add_zero F (F.mul 1 y)))
      | inr o ↦ rw o (cc (zero_mul F y, F.add_self (F.mul 1 y)))
    ])
  ])

  pub dot-unit : (width p : ℕ) (column : ℕ → ℕ) → p < width → IsColumn F width column → dot F width (unit p) column ≡ column p
  dot-unit width p column l elements =
      dot_one F width (unit p) column p l (λ k m d. if_apart p k 1 0 (λ e. d (sym e)))
      ∙ ap (λ (x : ℕ). F.mul x (column p)) (if_same p p 1 0 refl) ∙ F.one_mul (column p) (elements p l)

pub sum_listed_is : SumIsDotOfParities
unfolding sum_listed dot
sum_listed_is F width [] column below elements = sym (dot_zero F width (parity []) column (λ k l. unfold parity in zero_mul F (column k)))
sum_listed_is F width (p ∷ places) column below elements =
    ap (λ (y : ℕ). F.add y (sum_listed (plain F) places column)) (sym (dot-unit F width p column (All-head (λ q. q < width) p places below) elements))
    ∙ ap (λ (y : ℕ). F.add (dot F width (unit p) column) y) (sum_listed_is F width places column (All-tail (λ q. q < width) p places below) elements)
    ∙ sym (sum_add F width (λ k. F.mul (unit p k) (column k)) (λ k. F.mul (parity places k) (column k)))
    ∙ sym (sum_same F width _ _ (λ k l. mul_parity F p places k (column k)))
