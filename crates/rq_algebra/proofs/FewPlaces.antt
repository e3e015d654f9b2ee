-- Different places below a bound are no more than the bound, and as many as it are all of them.
use Rattle.std.proofs.Common.{◌≡◌, ◌≢◌, ℕ, zero, suc, ◌+◌, ◌≤◌, ◌<◌, sym, refl, arith, inl, inr, if◌then◌else◌, ◌==◌}
use Rattle.std.proofs.lemmas.Bool.{cases_eq, cases_lt}
use Rattle.rq_algebra.specs.Field.{Field}
use Rattle.rq_algebra.specs.Arrangements.{ArePlaces}
use Rattle.rq_algebra.specs.Changes.{with_at}
use Rattle.rq_algebra.specs.Systems.{dot, HasHomogeneousColumn}
use Rattle.rq_algebra.specs.Two.{two}
use Rattle.rq_algebra.proofs.ChangeLaws.{find_place, with_at_same, with_at_other}
use Rattle.rq_algebra.proofs.Choices.{if_same, if_apart, if_either}
use Rattle.rq_algebra.proofs.FewEquations.{few_rows}
use Rattle.rq_algebra.proofs.Places.{sum_places, more_places}
use Rattle.rq_algebra.proofs.Sums.{dot_one}

-- else some unknowns in fewer equations, each of which is one unknown, would not all be 0
pub few_places : (n bound : ℕ) (places : ℕ → ℕ) → ArePlaces n bound places → n ≤ bound
few_places n bound places are = elim (cases_lt bound n) [
  | inr fits ↦ fits
  | inl few ↦
      let a : ℕ → ℕ → ℕ = λ r k. if places k == r then 1 else 0 in
      let x : HasHomogeneousColumn two bound n a = few_rows two n bound a few (λ r k l m. if_either (λ y. y < 2) (places k) r 1 0 (λ e. omega arith) (λ d. omega arith)) in
      let p : ℕ = x.index in
      absurd (x.nonzero (cc (
        x.solves.at (places p) (are.below p x.in_width),
        dot_one two n (a (places p)) x.column p x.in_width (λ k l d. if_apart (places k) (places p) 1 0 (λ e. d (are.apart k p l x.in_width e))),
        if_same (places p) (places p) 1 0 refl,
        two.one_mul (x.column p) (x.is_column p x.in_width),
      )))
]

-- places, and others that follow each other
pub few_together :
    (n count first bound : ℕ) (places : ℕ → ℕ) → ArePlaces n bound places → first + count ≤ bound
    → ((i q : ℕ) → i < count → q < n → first + i ≢ places q) → n + count ≤ bound
few_together n zero first bound places are within other = let fits = few_places n bound places are in omega (arith, fits)
few_together n (suc count) first bound places are within other =
    let free : (q : ℕ) → q < n → places q ≢ first = λ q l e. other 0 q (omega arith) l (omega (arith, e)) in
    let more = few_together (suc n) count (suc first) bound (with_at places n first) (more_places n bound places first are (omega arith) free) (omega arith) (λ i q l m e. elim (cases_eq q n) [
      | inl s ↦ omega (arith, e, with_at_same places n first q s)
      | inr d ↦ other (suc i) q (omega arith) (omega arith) (omega (arith, e, with_at_other places n first q d))
    ]) in
    omega (arith, more)

pub all_places : (n : ℕ) (places : ℕ → ℕ) → ArePlaces n n places → (i : ℕ) → i < n → (j : ℕ) × (j < n) × (places j ≡ i)
all_places n places are i l = elim (find_place n places i) [
  | inl q ↦ q
  | inr free ↦ let fits = few_places (suc n) n (with_at places n i) (more_places n n places i are l free) in absurd (omega (arith, fits))
]

-- the terms of a sum in another order
pub dot_places : (F : Field) (width : ℕ) (row column places : ℕ → ℕ) → ArePlaces width width places → dot F width (λ k. row (places k)) (λ k. column (places k)) ≡ dot F width row column
unfolding dot
dot_places F width row column places are = sym (sum_places F width width (λ k. F.mul (row k) (column k)) places are (λ k l free. let q = all_places width places are k l in absurd (free q.0 q.1 q.2)))
